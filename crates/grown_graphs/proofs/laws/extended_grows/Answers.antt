-- The law is proved beside its statement.
use Rattle.grown_graphs.specs.Laws.{extended-grows}
use Rattle.grown_graphs.proofs.laws.extended_grows.Goals as goal

pub returns : goal.returns
returns c = extended-grows
