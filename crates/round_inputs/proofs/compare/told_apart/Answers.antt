use Rattle.round_inputs.proofs.Leftovers.{apart-long, apart-least}
use Rattle.round_inputs.proofs.compare.told_apart.Goals as goal

pub returns-then-left-right : goal.returns-then-left-right
returns-then-left-right c = λ e. apart-long c.args.left.now c.args.right.now c.if-left-right.true

pub returns : goal.returns
returns c = λ e. apart-least c.args.left.now c.args.right.now _ _ _ c.least_of.ensures c.least_of-2.ensures c.is_other.ensures e
