use Rattle.lone_work.specs.WorkLaws.{starts-agree}
use Rattle.lone_work.proofs.laws.starts_agree.Goals as goal

pub returns : goal.returns
returns c = starts-agree
