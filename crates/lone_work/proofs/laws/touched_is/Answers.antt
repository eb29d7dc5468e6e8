use Rattle.lone_work.specs.StepLaws.{touched-is}
use Rattle.lone_work.proofs.laws.touched_is.Goals as goal

pub returns : goal.returns
returns c = touched-is
