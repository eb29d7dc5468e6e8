use Rattle.std.proofs.Common.{◌≤◌}
use Rattle.round_kernel.proofs.suspects.are_nearly_all.Given as goal

abbrev pub invariant-loop-flag : goal.invariant-loop-flag
invariant-loop-flag l = l.unset ≤ l.flag-index
