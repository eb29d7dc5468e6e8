use Rattle.lone_work.specs.WorkLaws.{equal-nothing}
use Rattle.lone_work.proofs.laws.equal_views_no_work.Goals as goal

pub returns : goal.returns
returns c = equal-nothing
