use Rattle.std.proofs.Common.{◌≤◌, ◌+◌, ◌-◌, ◌++◌, length, drop}
use Rattle.weighted.proofs.Joining.{Joining}
use Rattle.trace_store.proofs.layer.merge.Given as goal

abbrev pub invariant-loop-i : goal.invariant-loop-i
invariant-loop-i g l = record {
  in_left : l.i ≤ length l.left;
  in_right : l.j ≤ length l.right;
  room : (length l.left - l.i) + (length l.right - l.j) ≤ l.entries.spare;
  walk : Joining g.R.Ord.cmp l.entries.items (drop l.i l.left) (drop l.j l.right) (l.left ++ l.right);
}

abbrev pub decreases-loop-i : goal.decreases-loop-i
decreases-loop-i g l = (length l.left - l.i) + (length l.right - l.j)
