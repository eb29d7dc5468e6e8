use Rattle.std.proofs.Common.{◌≡◌, ◌≤◌, false, length, get_or, take, filter}
use Rattle.round_inputs.proofs.tails.pick_apart.Given as goal

abbrev pub invariant-loop-tail : goal.invariant-loop-tail
invariant-loop-tail l = record {
  size : length l.picked ≡ length l.fn.picked;
  within : l.count ≤ l.tail-index;
  picked : take l.count l.picked ≡ filter (λ t. get_or l.apart t.0 false) (take l.tail-index l.tails);
}
