use Rattle.std.proofs.Common.{◌≡◌, ◌++◌, take}
use Rattle.weighted.specs.WordLaws.{mapped}
use Rattle.flow_core.proofs.each.push_each.Given as goal

abbrev pub invariant-loop-record : goal.invariant-loop-record
invariant-loop-record g l = l.entries.items ≡ l.initial.entries.items ++ mapped (g.E.Each.gives l.each) (take l.record-index l.record-items)
