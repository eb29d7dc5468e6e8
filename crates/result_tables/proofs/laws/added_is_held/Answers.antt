use Rattle.result_tables.specs.Laws.{added_is_held}
use Rattle.result_tables.proofs.laws.added_is_held.Goals as goal

pub returns : goal.returns
returns c = added_is_held
