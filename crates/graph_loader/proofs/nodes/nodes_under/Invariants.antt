use Rattle.std.proofs.Common.{◌≤◌, length}
use Rattle.graph_loader.specs.declared.fault.DataFile.TheVariants as file
use Rattle.graph_loader.specs.DataFiles.{id_of_row, kinds_of, node_fault}
use Rattle.graph_loader.specs.RowsLeft.{IsReady, left_of}
use Rattle.graph_loader.specs.RecordLaws.{SoFar}
use Rattle.graph_loader.proofs.nodes.nodes_under.Given as goal

abbrev pub invariant-loop-cells : goal.invariant-loop-cells
invariant-loop-cells l =
    IsReady l.rows.reader
    × SoFar file.Nodes id_of_row 1 node_fault (kinds_of l.fn.columns) (left_of l.fn.rows.reader) (left_of l.rows.reader) l.ids.keys l.cells.items
    × (length l.ids.keys ≤ 1_000_000)

abbrev pub decreases-loop-cells : goal.decreases-loop-cells
decreases-loop-cells l = length (left_of l.rows.reader)
