use Rattle.lone_work.specs.WorkLaws.{settled-nothing}
use Rattle.lone_work.proofs.laws.settled_costs_nothing.Goals as goal

pub returns : goal.returns
returns c = settled-nothing
