use Rattle.lone_work.specs.WorkLaws.{marked-at-first}
use Rattle.lone_work.proofs.laws.marked_at_first.Goals as goal

pub returns : goal.returns
returns c = marked-at-first
