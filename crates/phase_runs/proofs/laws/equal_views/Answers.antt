use Rattle.phase_runs.specs.Laws.{equal_views}
use Rattle.phase_runs.proofs.laws.equal_views.Goals as goal

pub returns : goal.returns
returns c = equal_views
