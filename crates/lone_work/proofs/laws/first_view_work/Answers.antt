use Rattle.lone_work.specs.StepLaws.{first-work}
use Rattle.lone_work.proofs.laws.first_view_work.Goals as goal

pub returns : goal.returns
returns c = first-work
