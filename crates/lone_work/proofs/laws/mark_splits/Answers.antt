use Rattle.lone_work.specs.SplitLaws.{mark-splits}
use Rattle.lone_work.proofs.laws.mark_splits.Goals as goal

pub returns : goal.returns
returns c = mark-splits
