-- The values so far are the same.
use Rattle.std.proofs.Common.{◌≡◌, ◌<◌, ℕ}
use Rattle.vertex_lang.specs.Rounds.{value_at}
use Rattle.phase_runs.proofs.changes.are_same.Given as goal

abbrev pub invariant-loop-node : goal.invariant-loop-node
invariant-loop-node l = (k : ℕ) → k < l.node → value_at l.left k ≡ value_at l.right k
