-- The law is proved beside its statement.
use Rattle.table_meanings.specs.Laws.{distances-of-tables}
use Rattle.table_meanings.proofs.laws.distances_of_tables.Goals as goal

pub returns : goal.returns
returns c = distances-of-tables
