use Rattle.std.proofs.Common.{rules}
use Rattle.gvdl_tokens.proofs.Numbers.{too_large}
use Rattle.gvdl_tokens.proofs.number.value_of.Goals as goal

pub returns-then-value-digit-clause-large : goal.returns-then-value-digit-clause-large
returns-then-value-digit-clause-large c =
    too_large c.loop-b.value c.from-digit.result c.loop-b.b-index c.args.digits.now (search rules) c.loop-b.invariant.digits (search rules) c.if-value-digit.true c.loop-b.invariant.value
