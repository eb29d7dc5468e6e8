use Rattle.std.proofs.Common.{take}
use Rattle.value_codes.specs.Numbers.{AreNumbers}
use Rattle.value_codes.proofs.numbers.numbers_of.Given as goal

abbrev pub invariant-loop-value : goal.invariant-loop-value
invariant-loop-value l = AreNumbers (take l.value-index l.values) l.numbers.items
