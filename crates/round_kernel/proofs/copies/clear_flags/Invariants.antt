use Rattle.std.proofs.Common.{◌≡◌, ℕ, drop, get_or, true, false}
use Rattle.change_lists.specs.ChangeLists.{is_listed}
use Rattle.round_kernel.proofs.copies.clear_flags.Given as goal

abbrev pub invariant-loop-node : goal.invariant-loop-node
invariant-loop-node l = (v : ℕ) → get_or l.marked v false ≡ true → is_listed v (drop l.node-index l.shown) ≡ true
