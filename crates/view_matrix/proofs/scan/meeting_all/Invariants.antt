use Rattle.std.proofs.Common.{◌≡◌, ◌+◌, ◌&&◌, ℕ, take}
use Rattle.std.specs.Prelude.{nat_lt}
use Rattle.view_matrix.specs.Bounds.{all_meet}
use Rattle.view_matrix.specs.Columns.{is_set}
use Rattle.view_matrix.specs.Numbers.{AreNumbers}
use Rattle.view_matrix.proofs.scan.meeting_all.Given as goal

abbrev pub invariant-loop-bounds : goal.invariant-loop-bounds
invariant-loop-bounds l = record {
  numbers : AreNumbers l.graph l.numbers;
  word : (i : ℕ) → is_set l.word i ≡ (nat_lt i l.count && all_meet l.graph (l.first + i) (take l.bounds-index l.all));
}
