-- The law is proved beside its statement.
use Rattle.graph_loader.specs.Laws.{loaded-names}
use Rattle.graph_loader.proofs.laws.loaded_names.Goals as goal

pub returns : goal.returns
returns c = loaded-names
