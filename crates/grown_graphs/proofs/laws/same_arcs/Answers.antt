-- The law is proved beside its statement.
use Rattle.grown_graphs.specs.Laws.{same-arcs-of}
use Rattle.grown_graphs.proofs.laws.same_arcs.Goals as goal

pub returns : goal.returns
returns c = same-arcs-of
