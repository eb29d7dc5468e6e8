use Rattle.std.proofs.Common.{◌≡◌, take}
use Rattle.weighted.specs.Batches.{joined}
use Rattle.weighted.specs.SumLaws.{filtered}
use Rattle.trace_store.proofs.Keys.{keyed}
use Rattle.trace_store.proofs.trace.Trace.seek_entries.Given as goal

abbrev pub invariant-loop-layer : goal.invariant-loop-layer
invariant-loop-layer g l = l.entries ≡ filtered (keyed g.K.Ord.cmp l.key) (joined (take l.layer-index l.layer-items))
