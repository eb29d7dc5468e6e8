-- The law is proved beside its statement.
use Rattle.table_meanings.specs.Laws.{hops-of-tables}
use Rattle.table_meanings.proofs.laws.hops_of_tables.Goals as goal

pub returns : goal.returns
returns c = hops-of-tables
