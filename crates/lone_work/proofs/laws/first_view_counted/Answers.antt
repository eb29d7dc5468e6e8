use Rattle.lone_work.specs.WorkLaws.{first-counted}
use Rattle.lone_work.proofs.laws.first_view_counted.Goals as goal

pub returns : goal.returns
returns c = first-counted
