use Rattle.std.proofs.Common.{◌≡◌, take}
use Rattle.loop_theory.specs.Inputs.{as_moving}
use Rattle.diff_iterate.proofs.parts.moving_batch.Given as goal

abbrev pub invariant-loop-record : goal.invariant-loop-record
invariant-loop-record g l = l.entries.items ≡ as_moving (take l.record-index l.record-items)
