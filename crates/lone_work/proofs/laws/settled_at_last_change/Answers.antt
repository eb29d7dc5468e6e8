use Rattle.lone_work.specs.StepLaws.{settled-last}
use Rattle.lone_work.proofs.laws.settled_at_last_change.Goals as goal

pub returns : goal.returns
returns c = settled-last
