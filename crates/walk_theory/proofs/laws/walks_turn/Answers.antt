use Rattle.walk_theory.specs.Turning.{turned}
use Rattle.walk_theory.proofs.laws.walks_turn.Goals as goal

pub returns : goal.returns
returns g c = turned
