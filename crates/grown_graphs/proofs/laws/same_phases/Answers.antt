-- The law is proved beside its statement.
use Rattle.grown_graphs.specs.Laws.{same-phases}
use Rattle.grown_graphs.proofs.laws.same_phases.Goals as goal

pub returns : goal.returns
returns c = same-phases
