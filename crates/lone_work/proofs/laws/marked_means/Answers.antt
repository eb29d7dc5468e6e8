use Rattle.lone_work.specs.CountLaws.{marked-means}
use Rattle.lone_work.proofs.laws.marked_means.Goals as goal

pub returns : goal.returns
returns c = marked-means
