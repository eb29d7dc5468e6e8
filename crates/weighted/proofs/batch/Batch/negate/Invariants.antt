use Rattle.std.proofs.Common.{◌≡◌, take}
use Rattle.weighted.specs.Alike.{negated}
use Rattle.weighted.proofs.batch.Batch.negate.Given as goal

abbrev pub invariant-loop-record : goal.invariant-loop-record
invariant-loop-record g l = l.entries.items ≡ negated (take l.record-index l.record-items)
