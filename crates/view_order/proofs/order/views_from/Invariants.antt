use Rattle.std.proofs.Common.{◌≡◌, ◌≤◌, ◌-◌, length}
use Rattle.view_order.proofs.Ranges.{between}
use Rattle.view_order.proofs.order.views_from.Given as goal

abbrev pub invariant-loop-number : goal.invariant-loop-number
invariant-loop-number l = record {
  from : l.first ≤ l.number;
  all : l.number-end ≡ length l.matrix.columns;
  pushed : l.views ≡ between l.first (l.number - l.first);
}
