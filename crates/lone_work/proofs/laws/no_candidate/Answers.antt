use Rattle.lone_work.specs.PartLaws.{no-candidate}
use Rattle.lone_work.proofs.laws.no_candidate.Goals as goal

pub returns : goal.returns
returns c = no-candidate
