use Rattle.std.proofs.Common.{◌≡◌, ◌+◌, ◌<◌, ℕ, length}
use Rattle.view_matrix.specs.Columns.{at, is_set}
use Rattle.view_matrix.proofs.flagged.put_word.Given as goal

abbrev pub invariant-loop-place : goal.invariant-loop-place
invariant-loop-place l = record {
  count : length l.flags ≡ length l.initial.flags;
  before : (e : ℕ) → e < l.first → at l.flags e ≡ at l.initial.flags e;
  here : (i : ℕ) → i < l.place → at l.flags (l.first + i) ≡ is_set l.word i;
}
