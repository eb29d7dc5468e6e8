use Rattle.result_tables.specs.Laws.{changes_give}
use Rattle.result_tables.proofs.laws.changes_give.Goals as goal

pub returns : goal.returns
returns c = changes_give
