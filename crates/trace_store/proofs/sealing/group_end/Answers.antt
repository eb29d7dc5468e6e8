-- One more entry of the key and the value, or the first one of another.
use Rattle.std.proofs.Common.{◌≡◌, ◌∙◌, ℕ, ◌+◌, true, false, ap, sym, arith}
use Rattle.std.specs.Ordering.{is_ne}
use Rattle.trace_store.specs.Traces.{in_turn}
use Rattle.trace_store.proofs.Places.{one_more, read_at}
use Rattle.trace_store.proofs.sealing.group_end.Goals as goal

pub returns-then-is_ne-clause-end : goal.returns-then-is_ne-clause-end
returns-then-is_ne-clause-end g c = λ low d.
    let other : is_ne (in_turn g.K.Ord.cmp g.V.Ord.cmp c.get.result.0.0 c.args.pair) ≡ true = ap is_ne (sym c.cmp.ensures) ∙ sym c.is_ne.ensures ∙ c.if-is_ne.true in
    ap (λ (e : ((g.row.K.Denot × g.row.V.Denot) × g.row.T.Denot) × ℕ). is_ne (in_turn g.K.Ord.cmp g.V.Ord.cmp e.0.0 c.args.pair)) (read_at c.args.layer.now c.loop-end.end c.get.result d c.get.ensures) ∙ other

pub loop-end-preserved : goal.loop-end-preserved
loop-end-preserved g c =
    let same : is_ne (in_turn g.K.Ord.cmp g.V.Ord.cmp c.get.result.0.0 c.args.pair) ≡ false = ap is_ne (sym c.cmp.ensures) ∙ sym c.is_ne.ensures ∙ c.if-is_ne.false in
    record {
      behind = omega arith;
      bound = omega arith;
      group = one_more (λ (e : ((g.row.K.Denot × g.row.V.Denot) × g.row.T.Denot) × ℕ). is_ne (in_turn g.K.Ord.cmp g.V.Ord.cmp e.0.0 c.args.pair) ≡ false) c.args.layer.now (c.args.start + 1) c.loop-end.end c.get.result c.get.ensures same c.loop-end.invariant.group;
    }
