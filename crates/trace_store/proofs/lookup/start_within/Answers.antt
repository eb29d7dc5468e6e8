-- One halving.
use Rattle.std.proofs.Common.{◌≡◌, ◌∙◌, ◌+◌, ◌-◌, ◌/◌, true, false, ap, sym, arith}
use Rattle.std.specs.Ordering.{is_lt}
use Rattle.trace_store.proofs.Keys.{all_before, all_from}
use Rattle.trace_store.proofs.lookup.start_within.Goals as goal

pub loop-low-preserved-then-is_lt : goal.loop-low-preserved-then-is_lt
loop-low-preserved-then-is_lt g c =
    let lt : is_lt (g.K.Ord.cmp c.get.result.0.0.0 c.args.key.now) ≡ true = ap is_lt (sym c.cmp.ensures) ∙ sym c.is_lt.ensures ∙ c.if-is_lt.true in
    record {
      order = omega arith;
      bound = omega arith;
      before = all_before g.K.Ord.cmp g.V.Ord.cmp g.T.Ord.cmp g.met.K.Ord.total c.args.key.now c.args.layer.now (c.loop-low.low + (c.loop-low.high - c.loop-low.low) / 2) c.get.result c.requires.rising c.get.ensures lt;
      from = c.loop-low.invariant.from;
    }

pub loop-low-preserved : goal.loop-low-preserved
loop-low-preserved g c =
    let ge : is_lt (g.K.Ord.cmp c.get.result.0.0.0 c.args.key.now) ≡ false = ap is_lt (sym c.cmp.ensures) ∙ sym c.is_lt.ensures ∙ c.if-is_lt.false in
    record {
      order = omega arith;
      bound = omega arith;
      before = c.loop-low.invariant.before;
      from = all_from g.K.Ord.cmp g.V.Ord.cmp g.T.Ord.cmp g.met.K.Ord.total c.args.key.now c.args.layer.now (c.loop-low.low + (c.loop-low.high - c.loop-low.low) / 2) c.get.result c.requires.rising c.get.ensures ge;
    }
