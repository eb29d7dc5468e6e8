use Rattle.graph_loader.proofs.RowFacts.{only-of-source}
use Rattle.graph_loader.proofs.rows.refused.Goals as goal

pub unreachable-requires : goal.unreachable-requires
unreachable-requires c = only-of-source c.kind.result.now (rw c.kind.ensures c.requires) c.in_default.not-OutOfMemory c.in_default.not-Io
