use Rattle.std.proofs.Common.{◌≤◌, ◌+◌, length}
use Rattle.graph_loader.specs.DataFiles.{kinds_of}
use Rattle.graph_loader.specs.RowsLeft.{IsReady, left_of}
use Rattle.graph_loader.proofs.EndFacts.{Waits}
use Rattle.graph_loader.proofs.edges.edges_under.Given as goal

abbrev pub invariant-loop-cells : goal.invariant-loop-cells
invariant-loop-cells l =
    IsReady l.rows.reader
    × Waits l.source l.ids.keys (kinds_of l.columns) (left_of l.fn.rows.reader) (left_of l.rows.reader) l.ends l.waiting l.cells.items
    × (l.source.before + length l.ends + length l.waiting ≤ 4_000_000)

abbrev pub decreases-loop-cells : goal.decreases-loop-cells
decreases-loop-cells l = length (left_of l.rows.reader)
