use Rattle.std.proofs.Common.{◌≡◌, take, get_or, true, false, length}
use Rattle.std.specs.Prelude.{All}
use Rattle.round_kernel.proofs.frame.watch.Given as goal

abbrev pub invariant-loop-arc : goal.invariant-loop-arc
invariant-loop-arc l = record {
  size : length l.watched.items ≡ l.size;
  tails : All (λ a. get_or l.watched.items a.tail.0 false ≡ true) (take l.arc-index l.turned);
}
