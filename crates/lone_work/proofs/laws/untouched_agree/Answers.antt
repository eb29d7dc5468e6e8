use Rattle.lone_work.specs.WorkLaws.{untouched-agree}
use Rattle.lone_work.proofs.laws.untouched_agree.Goals as goal

pub returns : goal.returns
returns c = untouched-agree
