use Rattle.walk_theory.specs.Joining.{ends-with}
use Rattle.walk_theory.proofs.laws.walks_end.Goals as goal

pub returns : goal.returns
returns g c = ends-with
