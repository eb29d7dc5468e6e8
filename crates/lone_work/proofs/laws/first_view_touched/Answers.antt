use Rattle.lone_work.specs.WorkLaws.{first-touched}
use Rattle.lone_work.proofs.laws.first_view_touched.Goals as goal

pub returns : goal.returns
returns c = first-touched
