use Rattle.lone_work.specs.SplitLaws.{active-splits}
use Rattle.lone_work.proofs.laws.active_splits.Goals as goal

pub returns : goal.returns
returns c = active-splits
