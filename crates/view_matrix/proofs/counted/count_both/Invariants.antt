use Rattle.std.proofs.Common.{◌≡◌, ◌*◌, ◌&&◌, count_by}
use Rattle.std.specs.List.{range_with_len}
use Rattle.view_matrix.specs.Columns.{at}
use Rattle.view_matrix.proofs.counted.count_both.Given as goal

abbrev pub invariant-loop-k : goal.invariant-loop-k
invariant-loop-k l = l.count ≡ count_by (λ e. at l.first e && at l.second e) (range_with_len 0 (64 * l.k))
