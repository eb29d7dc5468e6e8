use Rattle.std.proofs.Common.{◌≡◌, false, take}
use Rattle.round_kernel.specs.Flags.{IsSettled, AreSet}
use Rattle.round_kernel.proofs.suspects.Suspects.part_all.Given as goal

abbrev pub invariant-loop-change : goal.invariant-loop-change
invariant-loop-change l = record {
  apart : AreSet (IsSettled l.frame l.lists) false (take l.change-index l.changes) l.initial.self.apart.items l.self.apart.items;
  moved : l.self.moved ≡ l.initial.self.moved;
  turned : l.self.turned ≡ l.initial.self.turned;
}
