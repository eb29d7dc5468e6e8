use Rattle.lone_work.specs.WorkLaws.{untouched-mark}
use Rattle.lone_work.proofs.laws.untouched_same_mark.Goals as goal

pub returns : goal.returns
returns c = untouched-mark
