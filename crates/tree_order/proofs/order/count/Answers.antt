-- They are no more than the matrix has.
use Rattle.std.proofs.Common.{arith}
use Rattle.tree_order.proofs.Results.{few_views}
use Rattle.tree_order.proofs.order.count.Goals as goal

pub returns-clause-limit : goal.returns-clause-limit
returns-clause-limit c = omega (arith, few_views c.args.matrix.now c.args.views.now c.requires.views c.requires.distinct)
