use Rattle.std.proofs.Common.{◌≡◌, ◌<◌, ℕ, false, length, get_or}
use Rattle.round_kernel.specs.Flags.{IsFlagged}
use Rattle.round_kernel.proofs.suspects.Suspects.part_everyone.Given as goal

abbrev pub invariant-loop-node : goal.invariant-loop-node
invariant-loop-node l = record {
  size : length l.self.apart.items ≡ length l.initial.self.apart.items;
  flags : (u : ℕ) → u < l.node → IsFlagged l.frame l.lists u (get_or l.self.apart.items u false);
  moved : l.self.moved ≡ l.initial.self.moved;
  turned : l.self.turned ≡ l.initial.self.turned;
}
