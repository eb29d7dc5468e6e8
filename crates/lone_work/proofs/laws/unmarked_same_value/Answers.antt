use Rattle.lone_work.specs.WorkLaws.{unmarked-value}
use Rattle.lone_work.proofs.laws.unmarked_same_value.Goals as goal

pub returns : goal.returns
returns c = unmarked-value
