-- The law is proved beside its statement.
use Rattle.grown_graphs.specs.Laws.{same-works}
use Rattle.grown_graphs.proofs.laws.same_works.Goals as goal

pub returns : goal.returns
returns c = same-works
