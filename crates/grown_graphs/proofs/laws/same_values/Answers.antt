-- The law is proved beside its statement.
use Rattle.grown_graphs.specs.Laws.{same-values}
use Rattle.grown_graphs.proofs.laws.same_values.Goals as goal

pub returns : goal.returns
returns c = same-values
