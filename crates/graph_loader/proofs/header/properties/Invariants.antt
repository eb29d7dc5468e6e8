use Rattle.std.proofs.Common.{◌≡◌, ◌+◌, ◌≤◌, [], length, drop}
use Rattle.csv.specs.Records.{fields_of}
use Rattle.graph_loader.specs.DataFiles.{properties_from}
use Rattle.graph_loader.proofs.header.properties.Given as goal

abbrev pub invariant-loop-place : goal.invariant-loop-place
invariant-loop-place l =
    (l.place ≡ l.first + length l.columns) × (length l.columns ≤ 16)
    × (properties_from (l.first + 1) [] (drop l.first (fields_of l.row)) ≡ properties_from (l.place + 1) l.columns (drop l.place (fields_of l.row)))
