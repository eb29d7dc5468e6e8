use Rattle.std.proofs.Common.{◌-◌}
use Rattle.change_text.specs.Inside.{IsBetween}
use Rattle.change_text.proofs.place.halve.Given as goal

abbrev pub invariant-halves : goal.invariant-halves
invariant-halves l = IsBetween l.table l.id l.low l.high

abbrev pub decreases-halves : goal.decreases-halves
decreases-halves l = l.high - l.low
