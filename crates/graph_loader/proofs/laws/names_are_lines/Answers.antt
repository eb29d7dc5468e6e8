-- The law is proved beside its statement.
use Rattle.graph_loader.specs.Laws.{names-are-lines}
use Rattle.graph_loader.proofs.laws.names_are_lines.Goals as goal

pub returns : goal.returns
returns c = names-are-lines
