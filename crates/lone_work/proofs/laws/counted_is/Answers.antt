use Rattle.lone_work.specs.StepLaws.{counted-is}
use Rattle.lone_work.proofs.laws.counted_is.Goals as goal

pub returns : goal.returns
returns c = counted-is
