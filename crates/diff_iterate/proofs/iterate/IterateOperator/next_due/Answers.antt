-- The least pair has the least outer time.
use Rattle.diff_iterate.proofs.Dues.{next_outer}
use Rattle.diff_iterate.proofs.iterate.IterateOperator.next_due.Goals as goal

pub returns-in-Some : goal.returns-in-Some
returns-in-Some g c = next_outer g.T.Ord.cmp c.in-Some.due (g.B.Operator.due c.args.self.now.body) c.in-Some.ensures
