use Rattle.std.proofs.Common.{◌≡◌, ◌&&◌, ℕ, get_or, pos}
use Rattle.std.specs.Prelude.{nat_lt}
use Rattle.view_matrix.specs.Bounds.{lies_within}
use Rattle.view_matrix.specs.Columns.{is_set}
use Rattle.view_matrix.proofs.numbers.Numbers.meeting_word.Given as goal

abbrev pub invariant-loop-place : goal.invariant-loop-place
invariant-loop-place l = (i : ℕ) → is_set l.enclosed i ≡ (nat_lt i l.place && lies_within l.bounds.low l.bounds.high (get_or l.self.numbers.items i (pos 0)))
