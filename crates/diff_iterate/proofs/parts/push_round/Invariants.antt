use Rattle.std.proofs.Common.{◌≡◌, ◌++◌, take}
use Rattle.loop_theory.specs.Loops.{at_round}
use Rattle.diff_iterate.proofs.parts.push_round.Given as goal

abbrev pub invariant-loop-record : goal.invariant-loop-record
invariant-loop-record g l = l.entries.items ≡ l.initial.entries.items ++ at_round l.round.0 (take l.record-index l.record-items)
