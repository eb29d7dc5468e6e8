use Rattle.std.proofs.Common.{take, false}
use Rattle.round_kernel.specs.Flags.{AreSet, IsParted}
use Rattle.round_kernel.proofs.values.part.Given as goal

abbrev pub invariant-loop-change : goal.invariant-loop-change
invariant-loop-change l = AreSet (IsParted l.touched l.old_now l.new_now) false (take l.change-index l.changes) l.initial.parted l.parted
