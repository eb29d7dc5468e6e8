use Rattle.walk_theory.specs.Joining.{walk-after}
use Rattle.walk_theory.proofs.laws.walks_join.Goals as goal

pub returns : goal.returns
returns g c = walk-after
