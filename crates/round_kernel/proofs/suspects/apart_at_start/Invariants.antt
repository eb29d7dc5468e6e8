use Rattle.std.proofs.Common.{◌≡◌, ◌<◌, ℕ, false, length, get_or}
use Rattle.round_kernel.specs.Flags.{IsFlagged}
use Rattle.round_kernel.proofs.suspects.apart_at_start.Given as goal

abbrev pub invariant-loop-node : goal.invariant-loop-node
invariant-loop-node g l = record {
  size : length l.flags.items ≡ l.node;
  flags : (u : ℕ) → u < l.node → IsFlagged l.frame l.lists u (get_or l.flags.items u false);
}
