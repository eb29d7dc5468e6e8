use Rattle.walk_theory.specs.Shortening.{shortened}
use Rattle.walk_theory.proofs.laws.walks_shorten.Goals as goal

pub returns : goal.returns
returns g c = shortened
