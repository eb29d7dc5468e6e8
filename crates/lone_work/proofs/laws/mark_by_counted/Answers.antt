use Rattle.lone_work.specs.WorkLaws.{mark-by-counted}
use Rattle.lone_work.proofs.laws.mark_by_counted.Goals as goal

pub returns : goal.returns
returns c = mark-by-counted
