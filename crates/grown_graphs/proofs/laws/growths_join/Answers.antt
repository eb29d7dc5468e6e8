-- The law is proved beside its statement.
use Rattle.grown_graphs.specs.Laws.{growths-join}
use Rattle.grown_graphs.proofs.laws.growths_join.Goals as goal

pub returns : goal.returns
returns c = growths-join
