use Rattle.lone_work.specs.PartLaws.{all-agree}
use Rattle.lone_work.proofs.laws.all_agree.Goals as goal

pub returns : goal.returns
returns c = all-agree
