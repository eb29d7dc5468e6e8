use Rattle.std.proofs.Common.{◌≡◌, ◌++◌, take}
use Rattle.round_kernel.proofs.copies.list_all.Given as goal

abbrev pub invariant-loop-change : goal.invariant-loop-change
invariant-loop-change l = l.stirred ≡ l.initial.stirred ++ take l.change-index l.changes
