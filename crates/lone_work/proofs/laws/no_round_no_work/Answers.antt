use Rattle.lone_work.specs.StepLaws.{no-round}
use Rattle.lone_work.proofs.laws.no_round_no_work.Goals as goal

pub returns : goal.returns
returns c = no-round
