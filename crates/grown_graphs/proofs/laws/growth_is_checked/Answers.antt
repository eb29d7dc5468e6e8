-- The law is proved beside its statement.
use Rattle.grown_graphs.specs.Laws.{growth-is-checked}
use Rattle.grown_graphs.proofs.laws.growth_is_checked.Goals as goal

pub returns : goal.returns
returns c = growth-is-checked
