use Rattle.std.proofs.Common.{◌≡◌, take}
use Rattle.weighted.specs.SumLaws.{filtered}
use Rattle.flow_core.proofs.filter.filter_batch.Given as goal

abbrev pub invariant-loop-entry : goal.invariant-loop-entry
invariant-loop-entry g l = l.entries.items ≡ filtered (g.E.Keep.keeps l.keep) (take l.entry-index l.entry-items)
