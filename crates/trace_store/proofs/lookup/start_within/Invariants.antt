use Rattle.std.proofs.Common.{◌≡◌, ◌≤◌, ◌-◌, true, false, length}
use Rattle.std.specs.List.{AllWithin}
use Rattle.std.specs.Ordering.{is_lt}
use Rattle.trace_store.proofs.lookup.start_within.Given as goal

abbrev pub invariant-loop-low : goal.invariant-loop-low
invariant-loop-low g l = record {
  order : l.low ≤ l.high;
  bound : l.high ≤ length l.layer;
  before : AllWithin (λ e. is_lt (g.K.Ord.cmp e.0.0.0 l.key) ≡ true) l.layer 0 l.low;
  from : AllWithin (λ e. is_lt (g.K.Ord.cmp e.0.0.0 l.key) ≡ false) l.layer l.high (length l.layer);
}

abbrev pub decreases-loop-low : goal.decreases-loop-low
decreases-loop-low g l = l.high - l.low
