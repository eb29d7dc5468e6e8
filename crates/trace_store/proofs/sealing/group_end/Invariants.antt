use Rattle.std.proofs.Common.{◌≡◌, ◌<◌, ◌≤◌, ◌+◌, ◌-◌, false, length}
use Rattle.std.specs.List.{AllWithin}
use Rattle.std.specs.Ordering.{is_ne}
use Rattle.trace_store.specs.Traces.{in_turn}
use Rattle.trace_store.proofs.sealing.group_end.Given as goal

abbrev pub invariant-loop-end : goal.invariant-loop-end
invariant-loop-end g l = record {
  behind : l.start < l.end;
  bound : l.end ≤ length l.layer;
  group : AllWithin (λ e. is_ne (in_turn g.K.Ord.cmp g.V.Ord.cmp e.0.0 l.pair) ≡ false) l.layer (l.start + 1) l.end;
}

abbrev pub decreases-loop-end : goal.decreases-loop-end
decreases-loop-end g l = length l.layer - l.end
