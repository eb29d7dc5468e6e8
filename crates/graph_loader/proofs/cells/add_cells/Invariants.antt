use Rattle.std.proofs.Common.{◌≡◌, ◌+◌, map, drop}
use Rattle.csv.specs.Records.{fields_of}
use Rattle.graph_model.specs.GraphData.{kind_of}
use Rattle.graph_loader.specs.DataFiles.{cells_fault}
use Rattle.graph_loader.specs.CellLaws.{mixed}
use Rattle.graph_loader.proofs.cells.add_cells.Given as goal

abbrev pub invariant-loop-place : goal.invariant-loop-place
invariant-loop-place l =
    (l.columns.items ≡ mixed (fields_of l.row) l.first l.place l.fn.columns.items)
    × (cells_fault (fields_of l.row) l.first (map kind_of l.fn.columns.items) ≡ cells_fault (fields_of l.row) (l.first + l.place) (map kind_of (drop l.place l.fn.columns.items)))
