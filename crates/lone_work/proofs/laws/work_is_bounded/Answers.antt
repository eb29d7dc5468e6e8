use Rattle.lone_work.specs.CountLaws.{work-is-bounded}
use Rattle.lone_work.proofs.laws.work_is_bounded.Goals as goal

pub returns : goal.returns
returns c = work-is-bounded
