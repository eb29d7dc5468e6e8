use Rattle.std.proofs.Common.{◌≡◌, ◌++◌, take}
use Rattle.flow_core.specs.Expanded.{expanded}
use Rattle.flow_core.proofs.flat_map.push_expanded.Given as goal

abbrev pub invariant-loop-record : goal.invariant-loop-record
invariant-loop-record g l = l.entries.items ≡ l.fn.entries.items ++ expanded (g.E.Expand.gives l.expand) (take l.record-index l.record-items)
