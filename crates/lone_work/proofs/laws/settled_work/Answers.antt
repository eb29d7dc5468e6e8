use Rattle.lone_work.specs.SettledLaws.{settled-work}
use Rattle.lone_work.proofs.laws.settled_work.Goals as goal

pub returns : goal.returns
returns c = settled-work
