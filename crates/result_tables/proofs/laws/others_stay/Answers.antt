use Rattle.result_tables.specs.Laws.{others_stay}
use Rattle.result_tables.proofs.laws.others_stay.Goals as goal

pub returns : goal.returns
returns c = others_stay
