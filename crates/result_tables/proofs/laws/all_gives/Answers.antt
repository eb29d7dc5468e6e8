use Rattle.result_tables.specs.Laws.{all_gives}
use Rattle.result_tables.proofs.laws.all_gives.Goals as goal

pub returns : goal.returns
returns c = all_gives
