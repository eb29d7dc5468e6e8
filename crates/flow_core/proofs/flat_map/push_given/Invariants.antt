use Rattle.std.proofs.Common.{◌≡◌, ◌++◌, map, take}
use Rattle.flow_core.proofs.flat_map.push_given.Given as goal

abbrev pub invariant-loop-record : goal.invariant-loop-record
invariant-loop-record g l = l.entries.items ≡ l.fn.entries.items ++ map (λ b. (b, l.weight)) (take l.record-index l.given)
