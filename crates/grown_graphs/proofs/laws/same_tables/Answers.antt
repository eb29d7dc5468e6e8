-- The law is proved beside its statement.
use Rattle.grown_graphs.specs.Laws.{same-tables}
use Rattle.grown_graphs.proofs.laws.same_tables.Goals as goal

pub returns : goal.returns
returns c = same-tables
