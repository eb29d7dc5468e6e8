use Rattle.lone_work.specs.CountLaws.{touched-means}
use Rattle.lone_work.proofs.laws.touched_means.Goals as goal

pub returns : goal.returns
returns c = touched-means
