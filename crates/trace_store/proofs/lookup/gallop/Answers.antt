-- One longer step.
use Rattle.std.proofs.Common.{◌∙◌, ap, sym, arith}
use Rattle.std.specs.Ordering.{is_ge}
use Rattle.trace_store.proofs.Keys.{all_before, all_from, not_less, is_less}
use Rattle.trace_store.proofs.lookup.gallop.Goals as goal

pub start_within-requires-clause-from : goal.start_within-requires-clause-from
start_within-requires-clause-from g c = all_from g.K.Ord.cmp g.V.Ord.cmp g.T.Ord.cmp g.met.K.Ord.total c.args.key.now c.args.layer.now c.reach-last.result c.get.result c.requires.rising c.get.ensures (not_less (g.K.Ord.cmp c.get.result.0.0.0 c.args.key.now) (ap is_ge (sym c.cmp.ensures) ∙ sym c.is_ge.ensures ∙ c.if-is_ge.true))

pub loop-low-preserved : goal.loop-low-preserved
loop-low-preserved g c = record {
  order = omega arith;
  bound = omega arith;
  before = all_before g.K.Ord.cmp g.V.Ord.cmp g.T.Ord.cmp g.met.K.Ord.total c.args.key.now c.args.layer.now c.reach-last.result c.get.result c.requires.rising c.get.ensures (is_less (g.K.Ord.cmp c.get.result.0.0.0 c.args.key.now) (ap is_ge (sym c.cmp.ensures) ∙ sym c.is_ge.ensures ∙ c.if-is_ge.false));
}
