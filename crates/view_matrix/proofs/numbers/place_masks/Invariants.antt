use Rattle.std.proofs.Common.{◌≡◌, ◌<◌, ◌==◌, ℕ, length, get_or}
use Rattle.view_matrix.specs.Columns.{is_set}
use Rattle.view_matrix.proofs.numbers.place_masks.Given as goal

abbrev pub invariant-loop-place : goal.invariant-loop-place
invariant-loop-place l = record {
  long : length l.masks.items ≡ 64;
  alone : (place i : ℕ) → place < l.place → is_set (get_or l.masks.items place 0) i ≡ (i == place);
}
