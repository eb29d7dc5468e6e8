use Rattle.lone_work.specs.StepLaws.{unsettled-last}
use Rattle.lone_work.proofs.laws.unsettled_at_last_change.Goals as goal

pub returns : goal.returns
returns c = unsettled-last
