use Rattle.std.proofs.Common.{◌≡◌, ◌*◌, ◌&&◌, length}
use Rattle.view_matrix.specs.Columns.{at}
use Rattle.view_matrix.proofs.Flags.{flags_to}
use Rattle.view_matrix.proofs.flagged.put_both.Given as goal

abbrev pub invariant-loop-k : goal.invariant-loop-k
invariant-loop-k l = record {
  count : length l.flags ≡ length l.initial.flags;
  so_far : flags_to (λ e. at l.first e && at l.second e) (64 * l.k) l.flags;
}
