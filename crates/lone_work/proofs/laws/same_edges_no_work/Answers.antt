use Rattle.lone_work.specs.StepLaws.{same-edges}
use Rattle.lone_work.proofs.laws.same_edges_no_work.Goals as goal

pub returns : goal.returns
returns c = same-edges
