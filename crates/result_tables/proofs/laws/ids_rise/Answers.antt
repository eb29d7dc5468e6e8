use Rattle.result_tables.specs.Laws.{ids_rise}
use Rattle.result_tables.proofs.laws.ids_rise.Goals as goal

pub returns : goal.returns
returns c = ids_rise
