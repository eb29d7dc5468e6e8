-- The products of one more difference.
use Rattle.std.proofs.Common.{◌∙◌, ◌<◌, ◌++◌, length, ap, sym, subst, arith}
use Rattle.weighted.specs.SumLaws.{paired, wrapped}
use Rattle.diff_join.specs.Joins.{AreHeld, at_bound, given, pairs, unkeyed}
use Rattle.diff_join.proofs.Pushing.{keyed, made_of, made_of-append, made_of-one}
use Rattle.diff_join.proofs.Walks.{walk_onto, walked_onto}
use Rattle.diff_join.proofs.products.push_all.Goals as goal

pub loop-difference-preserved : goal.loop-difference-preserved
loop-difference-preserved g c =
    let low : c.loop-difference.difference-index < length c.as_slice-difference-items.result.now = omega arith in
    let f = pairs g.K.Ord.cmp (g.F.Pairing.gives c.args.pairing.now) in
    let e = c.difference-item.result in
    record {
      products = walk_onto (made_of g.T.Time.lub f c.args.t c.args.trace.now.items) (made_of-append g.T.Time.lub f c.args.t c.args.trace.now.items) c.args.products.now.items c.loop-difference.products.items _ c.as_slice-difference-items.result.now c.loop-difference.difference-index e low c.difference-item.is c.loop-difference.invariant.products
          (c.in_ok-push_products.ensures ∙ ap (λ v. c.loop-difference.products.items ++ v) (ap (λ v. wrapped (given (at_bound g.T.Time.lub (unkeyed (g.F.Pairing.gives c.args.pairing.now)) c.args.t) (paired e.0 e.1 v))) (c.as_slice.ensures ∙ c.in_ok-hold.ensures.entries) ∙ ap wrapped (sym (keyed g.K.Ord.cmp g.met.K.Ord.total g.T.Time.lub (g.F.Pairing.gives c.args.pairing.now) c.args.t e.0 e.1 c.args.trace.now.items)) ∙ made_of-one g.T.Time.lub f c.args.t c.args.trace.now.items e));
      held = subst (λ v. AreHeld g.K.Ord.cmp c.args.trace.now.items v c.hold.new.entries) (sym c.in_ok-hold.ensures.held) c.in_ok-hold.ensures.entries;
    }

pub returns : goal.returns
returns g c = walked_onto (made_of g.T.Time.lub (pairs g.K.Ord.cmp (g.F.Pairing.gives c.args.pairing.now)) c.args.t c.args.trace.now.items) c.args.products.now.items c.loop-difference.products.items c.as_slice-difference-items.result.now c.args.batch.now c.loop-difference.difference-index c.loop-difference.invariant.products (omega arith) c.as_slice-difference-items.ensures.value
