-- From the first entry without a smaller key up to the first one behind it with another key.
use Rattle.trace_store.proofs.Keys.{cut}
use Rattle.trace_store.proofs.lookup.run_from.Goals as goal

pub returns-clause-run : goal.returns-clause-run
returns-clause-run g c = cut g.K.Ord.cmp g.V.Ord.cmp g.T.Ord.cmp g.met.K.Ord.total c.args.key.now c.args.layer.now c.start_from-start.result c.end_of.result c.len-len.ensures.batch.rising c.end_of.ensures.bound.0 c.end_of.ensures.bound.1 c.start_from-start.ensures.before c.start_from-start.ensures.from c.end_of.ensures.run c.end_of.ensures.end
