use Rattle.vertex_lang.specs.AnswerLaws.{answer_meets}
use Rattle.vertex_lang.proofs.laws.answer_meets.Goals as goal

pub returns : goal.returns
returns c = answer_meets
