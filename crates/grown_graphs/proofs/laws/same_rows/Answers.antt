-- The law is proved beside its statement.
use Rattle.grown_graphs.specs.Laws.{same-rows}
use Rattle.grown_graphs.proofs.laws.same_rows.Goals as goal

pub returns : goal.returns
returns c = same-rows
