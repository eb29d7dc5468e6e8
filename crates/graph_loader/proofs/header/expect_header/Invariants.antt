use Rattle.std.proofs.Common.{◌≡◌, ◌+◌, drop, map}
use Rattle.csv.specs.Records.{fields_of}
use Rattle.graph_loader.specs.DataFiles.{column_word, header_fault, insert_words}
use Rattle.graph_loader.proofs.header.expect_header.Given as goal

abbrev pub invariant-loop-place : goal.invariant-loop-place
invariant-loop-place l = header_fault 1 (insert_words l.columns) (fields_of l.row) ≡ header_fault (l.place + 3) (map column_word (drop l.place l.columns)) (drop (l.place + 2) (fields_of l.row))
