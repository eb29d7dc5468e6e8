use Rattle.change_text.proofs.Numbers.{too_many}
use Rattle.change_text.proofs.opening.rounds_of.Goals as goal

pub returns-then-number-gt4294967295 : goal.returns-then-number-gt4294967295
returns-then-number-gt4294967295 c = too_many c.args.digits.now c.in-Some.number c.in-Some.ensures c.if-number-gt4294967295.true
