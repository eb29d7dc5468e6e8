-- The law is proved beside its statement.
use Rattle.grown_graphs.specs.Laws.{same-answers}
use Rattle.grown_graphs.proofs.laws.same_answers.Goals as goal

pub returns : goal.returns
returns c = same-answers
