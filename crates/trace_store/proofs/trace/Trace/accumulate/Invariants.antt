use Rattle.std.proofs.Common.{◌≡◌, take}
use Rattle.weighted.specs.Batches.{joined}
use Rattle.trace_store.proofs.Values.{keyed_values}
use Rattle.trace_store.proofs.trace.Trace.accumulate.Given as goal

abbrev pub invariant-loop-layer : goal.invariant-loop-layer
invariant-loop-layer g l = l.values ≡ keyed_values g.K.Ord.cmp g.T.Time.leq l.key l.t (joined (take l.layer-index l.layer-items))
