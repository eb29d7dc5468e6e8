-- A number below 2^64 has 20 digits at most.
use Rattle.std.proofs.Common.{arith}
use Rattle.std.proofs.lemmas.Fmt.{length-decimal-le}
use Rattle.change_text.proofs.lay.lay_digits.Goals as goal

pub write_digits-requires : goal.write_digits-requires
write_digits-requires c = (omega (arith, c.requires, length-decimal-le 20 c.args.number (omega arith) (omega arith) (omega arith)), c.requires.in_room)

pub returns-clause-far : goal.returns-clause-far
returns-clause-far c = omega (arith, c.write_digits.ensures.start, length-decimal-le 20 c.args.number (omega arith) (omega arith) (omega arith))
