-- The law is proved beside its statement.
use Rattle.graph_loader.specs.Laws.{extended-adds}
use Rattle.graph_loader.proofs.laws.extended_adds.Goals as goal

pub returns : goal.returns
returns c = extended-adds
