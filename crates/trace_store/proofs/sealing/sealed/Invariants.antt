use Rattle.std.proofs.Common.{◌≤◌, ◌-◌, length}
use Rattle.trace_store.specs.Traces.{in_turn}
use Rattle.trace_store.proofs.Groups.{Sealing}
use Rattle.trace_store.proofs.sealing.sealed.Given as goal

abbrev pub invariant-loop-start : goal.invariant-loop-start
invariant-loop-start g l = record {
  bound : l.start ≤ length l.layer;
  room : length l.layer - l.start ≤ l.made.spare;
  walk : Sealing (in_turn g.K.Ord.cmp g.V.Ord.cmp) g.T.Ord.cmp g.T.Time.lub l.f l.made.items l.layer l.start;
}

abbrev pub decreases-loop-start : goal.decreases-loop-start
decreases-loop-start g l = length l.layer - l.start
