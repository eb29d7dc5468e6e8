use Rattle.std.proofs.Common.{◌-◌, ◌≤◌, length}
use Rattle.change_text.specs.Inside.{IsBetween}
use Rattle.change_text.proofs.place.gallop.Given as goal

abbrev pub invariant-narrow : goal.invariant-narrow
invariant-narrow l = record {
  some : 1 ≤ l.step;
  between : IsBetween l.table l.id l.low (length l.table);
}

abbrev pub decreases-narrow : goal.decreases-narrow
decreases-narrow l = length l.table - l.low
