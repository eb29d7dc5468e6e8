use Rattle.std.proofs.Common.{◌≡◌, ◌≤◌, ◌-◌, length, take}
use Rattle.weighted.specs.WordLaws.{mapped}
use Rattle.trace_store.specs.Traces.{at_time}
use Rattle.trace_store.proofs.stamped.stamped.Given as goal

abbrev pub invariant-loop-record : goal.invariant-loop-record
invariant-loop-record g l = (l.entries.items ≡ mapped (at_time l.t) (take l.record-index l.record-items)) × (length l.record-items - l.record-index ≤ l.entries.spare)
