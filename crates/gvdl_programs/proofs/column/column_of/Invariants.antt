use Rattle.std.proofs.Common.{◌≡◌, ◌+◌, length}
use Rattle.gvdl_programs.specs.Columns.{column_from}
use Rattle.gvdl_programs.proofs.column.column_of.Given as goal

abbrev pub invariant-columns : goal.invariant-columns
invariant-columns l = record {
  same : column_from 0 l.columns l.name ≡ column_from l.place l.left l.name;
  all : l.place + length l.left ≡ length l.columns;
}

abbrev pub decreases-columns : goal.decreases-columns
decreases-columns l = length l.left
