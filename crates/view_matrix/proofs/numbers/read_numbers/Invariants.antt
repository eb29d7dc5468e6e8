use Rattle.std.proofs.Common.{◌≡◌, length}
use Rattle.view_matrix.specs.Numbers.{ShowCells}
use Rattle.view_matrix.proofs.numbers.read_numbers.Given as goal

abbrev pub invariant-loop-place : goal.invariant-loop-place
invariant-loop-place l = record {
  long : length l.numbers ≡ 64;
  shown : ShowCells l.graph l.first l.place l.column l.numbers l.present;
}
