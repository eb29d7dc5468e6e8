use Rattle.lone_work.specs.WorkLaws.{quiet-input}
use Rattle.lone_work.proofs.laws.quiet_same_input.Goals as goal

pub returns : goal.returns
returns c = quiet-input
