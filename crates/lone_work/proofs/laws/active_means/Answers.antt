use Rattle.lone_work.specs.CountLaws.{active-means}
use Rattle.lone_work.proofs.laws.active_means.Goals as goal

pub returns : goal.returns
returns c = active-means
