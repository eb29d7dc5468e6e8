use Rattle.multisets.specs.SortLaws.{sorted-tells}
use Rattle.multisets.proofs.compare.are_one_multiset.Goals as goal

pub returns-clause-answer : goal.returns-clause-answer
returns-clause-answer g c = sorted-tells g.T.PartialEq.eq g.T.Ord.cmp g.met.T.Ord.total g.met.T.Record.same g.met.T.Ord.matches_eq c.args.left.now c.args.right.now c.sort_unstable.new.self c.sort_unstable-2.new.self c.eq.result c.sort_unstable.ensures.permutation c.sort_unstable-2.ensures.permutation c.sort_unstable.ensures.sorted c.sort_unstable-2.ensures.sorted c.eq.ensures
