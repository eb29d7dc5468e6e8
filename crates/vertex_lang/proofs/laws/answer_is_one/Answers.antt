use Rattle.vertex_lang.specs.AnswerLaws.{answer_is}
use Rattle.vertex_lang.proofs.laws.answer_is_one.Goals as goal

pub returns : goal.returns
returns c = answer_is
