use Rattle.vertex_lang.specs.AnswerLaws.{answer_permuted}
use Rattle.vertex_lang.proofs.laws.permuted_answer.Goals as goal

pub returns : goal.returns
returns c = answer_permuted
