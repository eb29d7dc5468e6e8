use Rattle.std.proofs.Common.{take}
use Rattle.value_codes.specs.Numbers.{AreRenewed}
use Rattle.value_codes.proofs.numbers.renew.Given as goal

abbrev pub invariant-loop-change : goal.invariant-loop-change
invariant-loop-change l = AreRenewed l.values (take l.change-index l.changes) l.initial.numbers l.numbers
