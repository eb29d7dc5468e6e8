use Rattle.lone_work.specs.WorkLaws.{uncounted-value}
use Rattle.lone_work.proofs.laws.uncounted_value.Goals as goal

pub returns : goal.returns
returns c = uncounted-value
