-- The law is proved beside its statement.
use Rattle.table_meanings.specs.Laws.{components-of-tables}
use Rattle.table_meanings.proofs.laws.components_of_tables.Goals as goal

pub returns : goal.returns
returns c = components-of-tables
