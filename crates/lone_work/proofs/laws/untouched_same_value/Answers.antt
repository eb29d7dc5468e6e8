use Rattle.lone_work.specs.WorkLaws.{untouched-value}
use Rattle.lone_work.proofs.laws.untouched_same_value.Goals as goal

pub returns : goal.returns
returns c = untouched-value
