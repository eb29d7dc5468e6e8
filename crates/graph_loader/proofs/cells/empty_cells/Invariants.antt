use Rattle.std.proofs.Common.{◌≡◌, map, take}
use Rattle.graph_loader.specs.LoadSteps.{no_cells}
use Rattle.graph_loader.proofs.cells.empty_cells.Given as goal

abbrev pub invariant-loop-column : goal.invariant-loop-column
invariant-loop-column l = l.cells.items ≡ map (λ c. no_cells c.kind) (take l.column-index l.columns)
