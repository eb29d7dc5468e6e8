use Rattle.std.proofs.Common.{◌≡◌, take}
use Rattle.round_kernel.specs.Flags.{AreSet}
use Rattle.round_kernel.proofs.suspects.Suspects.stamp_each.Given as goal

abbrev pub invariant-loop-change : goal.invariant-loop-change
invariant-loop-change l = record {
  moved : AreSet (λ u to. to ≡ l.stamp) 0 (take l.change-index l.changes) l.initial.self.moved.items l.self.moved.items;
  apart : l.self.apart ≡ l.initial.self.apart;
  turned : l.self.turned ≡ l.initial.self.turned;
}
