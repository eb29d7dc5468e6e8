-- The ends of the old span, and one more.
use Rattle.ordered_pairs.proofs.Ends.{low_end, high_end, span_stays}
use Rattle.ordered_pairs.proofs.span.widened.Goals as goal

pub returns-in-Some-clause-low : goal.returns-in-Some-clause-low
returns-in-Some-clause-low g c = low_end g.B.Ord.cmp c.args.span c.in-Some.ends c.args.more c.in-Some.is c.min.result c.min.ensures

pub returns-in-Some-clause-high : goal.returns-in-Some-clause-high
returns-in-Some-clause-high g c = high_end g.B.Ord.cmp c.args.span c.in-Some.ends c.args.more c.in-Some.is c.max.result c.max.ensures

pub returns-in-Some-clause-old : goal.returns-in-Some-clause-old
returns-in-Some-clause-old g c = span_stays g.B.Ord.cmp c.args.span c.in-Some.ends c.args.more c.in-Some.is g.met.B.Ord.total c.min.result c.max.result c.min.ensures c.max.ensures
