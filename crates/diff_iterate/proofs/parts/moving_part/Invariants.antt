use Rattle.std.proofs.Common.{◌≡◌, take}
use Rattle.loop_theory.specs.Inputs.{moving}
use Rattle.diff_iterate.proofs.parts.moving_part.Given as goal

abbrev pub invariant-loop-input : goal.invariant-loop-input
invariant-loop-input g l = l.entries.items ≡ moving (take l.input-index l.input-items)
