use Rattle.lone_work.specs.WorkLaws.{untouched-input}
use Rattle.lone_work.proofs.laws.untouched_same_input.Goals as goal

pub returns : goal.returns
returns c = untouched-input
