-- The law is proved beside its statement.
use Rattle.grown_graphs.specs.Laws.{same-truths}
use Rattle.grown_graphs.proofs.laws.same_truths.Goals as goal

pub returns : goal.returns
returns c = same-truths
