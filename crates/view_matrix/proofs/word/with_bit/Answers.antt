use Rattle.view_matrix.proofs.Bits.{with_set, with_cleared}
use Rattle.view_matrix.proofs.word.with_bit.Goals as goal

pub returns-then-bit : goal.returns-then-bit
returns-then-bit c = λ i lt. with_set c.args.word c.args.place c.args.bit c.requires i c.if-bit.true

pub returns-else-bit : goal.returns-else-bit
returns-else-bit c = λ i lt. with_cleared c.args.word c.args.place c.args.bit c.requires i lt c.if-bit.false
