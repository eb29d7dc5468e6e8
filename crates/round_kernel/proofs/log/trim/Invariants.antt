use Rattle.std.proofs.Common.{◌≡◌, ◌≤◌, ℕ, [], get_or, length}
use Rattle.round_kernel.proofs.log.trim.Given as goal

abbrev pub invariant-loop-count : goal.invariant-loop-count
invariant-loop-count l = record {
  within : l.count ≤ length l.changes;
  empty : (k : ℕ) → l.count ≤ k → get_or l.changes k [] ≡ [];
}

abbrev pub decreases-loop-count : goal.decreases-loop-count
decreases-loop-count l = l.count
