use Rattle.std.proofs.Common.{◌≡◌, ◌≤◌, ◌==◌, length, get_or, take, filter}
use Rattle.round_inputs.proofs.tails.pick_moved.Given as goal

abbrev pub invariant-loop-tail : goal.invariant-loop-tail
invariant-loop-tail l = record {
  size : length l.picked ≡ length l.fn.picked;
  within : l.count ≤ l.tail-index;
  picked : take l.count l.picked ≡ filter (λ t. get_or l.moved t.0 0 == l.stamp) (take l.tail-index l.tails);
}
