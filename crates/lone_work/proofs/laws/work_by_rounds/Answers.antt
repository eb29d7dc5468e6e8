use Rattle.lone_work.specs.CountLaws.{work-by-rounds}
use Rattle.lone_work.proofs.laws.work_by_rounds.Goals as goal

pub returns : goal.returns
returns c = work-by-rounds
