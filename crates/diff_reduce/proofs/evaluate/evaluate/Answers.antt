-- One more key.
use Rattle.std.proofs.Common.{ℕ, List, ◌≡◌, ◌∙◌, ◌<◌, ◌+◌, ◌++◌, ◌∷◌, [], length, take, ap, sym, subst, arith, append-nil}
use Rattle.std.proofs.lemmas.List.{take_all, take_more}
use Rattle.weighted.specs.WordLaws.{mapped}
use Rattle.weighted.specs.Normal.{normal}
use Rattle.reduce_theory.specs.ByKey.{over}
use Rattle.diff_reduce.specs.Stands.{IsKept}
use Rattle.diff_reduce.specs.Changes.{correction}
use Rattle.diff_reduce.specs.Later.{AreLater}
use Rattle.diff_reduce.proofs.LaterLaws.{later_none, over-append}
use Rattle.diff_reduce.proofs.Walks.{walk_step}
use Rattle.diff_reduce.proofs.evaluate.evaluate.Goals as goal

pub loop-key-init : goal.loop-key-init
loop-key-init g c = record {
  made = c.new-work.ensures.made;
  later = subst (λ v. AreLater g.T.Time.leq g.T.Time.lub (IsKept g.T.Ord.cmp g.K.Ord.cmp g.V.Ord.cmp c.args.input.now.items c.args.points.now) c.args.points.now c.args.t [] v) (sym c.new-work.ensures.later) (later_none g.T.Time.leq g.T.Time.lub (IsKept g.T.Ord.cmp g.K.Ord.cmp g.V.Ord.cmp c.args.input.now.items c.args.points.now) c.args.points.now c.args.t);
  count = omega arith;
  calls = omega arith;
  cost = omega arith;
}

pub returns-clause-made : goal.returns-clause-made
returns-clause-made g c = c.into_parts.ensures.made ∙ c.loop-key.invariant.made ∙ ap (over (λ k. normal g.O.Ord.cmp (correction g.T.Time.leq g.K.Ord.cmp g.V.Ord.cmp g.O.Ord.cmp (g.G.KeyLogic.gives c.args.logic.now) c.args.t c.args.input.now.items c.args.output.now.items k))) (take_all c.loop-key.key-index c.args.keys.now (omega arith))

pub loop-key-preserved : goal.loop-key-preserved
loop-key-preserved g c =
    let low : c.loop-key.key-index < length c.args.keys.now = omega arith in
    let more : take (c.loop-key.key-index + 1) c.args.keys.now ≡ take c.loop-key.key-index c.args.keys.now ++ c.key-item.result ∷ [] = take_more c.args.keys.now c.loop-key.key-index c.key-item.result low ∙ ap (λ v. take c.loop-key.key-index c.args.keys.now ++ v ∷ []) (sym c.key-item.is) in
    let part : g.row.K.Denot → List (g.row.O.Denot × ℕ) = λ k. normal g.O.Ord.cmp (correction g.T.Time.leq g.K.Ord.cmp g.V.Ord.cmp g.O.Ord.cmp (g.G.KeyLogic.gives c.args.logic.now) c.args.t c.args.input.now.items c.args.output.now.items k) in
    record {
      made = walk_step (over part) (over-append part) c.loop-key.work.made.items _ c.args.keys.now c.loop-key.key-index c.key-item.result low c.key-item.is c.loop-key.invariant.made
          (c.in_ok-evaluate.ensures.made ∙ ap (λ v. c.loop-key.work.made.items ++ v) (sym (append-nil (mapped (λ o. (c.key-item.result, o)) (part c.key-item.result)))));
      later = subst (λ ks. AreLater g.T.Time.leq g.T.Time.lub (IsKept g.T.Ord.cmp g.K.Ord.cmp g.V.Ord.cmp c.args.input.now.items c.args.points.now) c.args.points.now c.args.t ks c.evaluate.new.self.later.items) (sym more)
          (c.in_ok-evaluate.ensures.later (take c.loop-key.key-index c.args.keys.now) c.loop-key.invariant.later);
      count = c.in_ok-tick.ensures.ok ∙ (let n = c.loop-key.invariant.count in omega (arith, n));
      calls = (let n = c.loop-key.invariant.calls in let m = c.in_ok-evaluate.ensures.calls in omega (arith, n, m));
      cost = (let n = c.loop-key.invariant.cost in let m = c.in_ok-evaluate.ensures.cost in let k = c.in_ok-tick.ensures.ok in omega (arith, n, m, k));
    }
