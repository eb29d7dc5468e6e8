use Rattle.std.proofs.Common.{◌≡◌, ◌≤◌, ◌+◌, length, drop}
use Rattle.weighted.specs.Batches.{joined}
use Rattle.trace_store.proofs.layers.stay.Given as goal

abbrev pub invariant-loop-stay : goal.invariant-loop-stay
invariant-loop-stay g l = (l.stay ≤ length l.layers) × (l.sum ≡ length (joined (drop l.stay l.layers)) + l.len)

abbrev pub decreases-loop-stay : goal.decreases-loop-stay
decreases-loop-stay g l = l.stay
