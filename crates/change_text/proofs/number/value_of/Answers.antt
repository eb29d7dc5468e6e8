use Rattle.change_text.proofs.Numbers.{too_large}
use Rattle.change_text.proofs.number.value_of.Goals as goal

pub returns-then-value-gt-MOST_TENS-clause-none : goal.returns-then-value-gt-MOST_TENS-clause-none
returns-then-value-gt-MOST_TENS-clause-none c all =
    too_large c.loop-b.value c.loop-b.b-index c.args.digits.now c.loop-b-test.true c.if-value-gt-MOST_TENS.true c.loop-b.invariant.value
