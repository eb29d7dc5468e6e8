use Rattle.std.proofs.Common.{◌≡◌, ◌≤◌, ◌-◌, false, length}
use Rattle.std.specs.List.{AllWithin}
use Rattle.std.specs.Ordering.{is_ne}
use Rattle.trace_store.proofs.lookup.end_of.Given as goal

abbrev pub invariant-loop-end : goal.invariant-loop-end
invariant-loop-end g l = record {
  behind : l.start ≤ l.end;
  bound : l.end ≤ length l.layer;
  run : AllWithin (λ e. is_ne (g.K.Ord.cmp e.0.0.0 l.key) ≡ false) l.layer l.start l.end;
}

abbrev pub decreases-loop-end : goal.decreases-loop-end
decreases-loop-end g l = length l.layer - l.end
