-- One product more, and all of them.
use Rattle.std.proofs.Common.{◌∙◌, ◌<◌, ◌+◌, ◌++◌, ◌∷◌, [], length, take, arith, ap, sym, refl}
use Rattle.std.specs.Ordering.{is_ne}
use Rattle.std.proofs.lemmas.List.{append-nil, take_all, take_more}
use Rattle.std.proofs.lemmas.Map.Lookups.{exact_pairs}
use Rattle.weighted.specs.Normal.{normal}
use Rattle.trace_store.specs.TraceLaws.{in_turn-total}
use Rattle.trace_store.specs.Traces.{in_turn}
use Rattle.diff_join.specs.Joins.{products_after, products_at}
use Rattle.diff_join.proofs.Keeping.{at-append, kept_more, none_taken}
use Rattle.diff_join.proofs.Walks.{walk_onto, walked_onto}
use Rattle.diff_join.proofs.Weights.{batch_itself}
use Rattle.diff_join.proofs.kept.Kept.take_in_all.Goals as goal

pub loop-product-init : goal.loop-product-init
loop-product-init g c = record {
  made = sym (ap (λ v. c.args.made.now.items ++ products_at g.T.Ord.cmp c.args.t.now v) (none_taken c.args.products.now) ∙ append-nil c.args.made.now.items);
  rest = batch_itself (in_turn g.T.Ord.cmp g.O.Ord.cmp) (in_turn-total {acmp = g.T.Ord.cmp} {bcmp = g.O.Ord.cmp} g.met.T.Ord.total g.met.O.Ord.total) (exact_pairs g.T.Ord.cmp g.O.Ord.cmp g.met.T.Record.same g.met.O.Record.same) c.args.self.now c.requires ∙ ap (λ v. normal (in_turn g.T.Ord.cmp g.O.Ord.cmp) (c.args.self.now ++ products_after g.T.Ord.cmp c.args.t.now v)) (sym (none_taken c.args.products.now));
}

pub loop-product-preserved : goal.loop-product-preserved
loop-product-preserved g c =
    let low : c.loop-product.product-index < length c.args.products.now = omega arith in
    record {
      made = walk_onto (products_at g.T.Ord.cmp c.args.t.now) (at-append g.T.Ord.cmp c.args.t.now) c.args.made.now.items c.loop-product.made.items _ c.args.products.now c.loop-product.product-index c.loop-product-item.result low c.loop-product-item.is c.loop-product.invariant.made c.in_ok-take_in.ensures.made;
      rest = kept_more g.T.Ord.cmp c.args.t.now (in_turn g.T.Ord.cmp g.O.Ord.cmp) (in_turn-total {acmp = g.T.Ord.cmp} {bcmp = g.O.Ord.cmp} g.met.T.Ord.total g.met.O.Ord.total) (exact_pairs g.T.Ord.cmp g.O.Ord.cmp g.met.T.Record.same g.met.O.Record.same) c.args.self.now c.loop-product.self _ (take c.loop-product.product-index c.args.products.now) (take (c.loop-product.product-index + 1) c.args.products.now) c.loop-product-item.result (is_ne (g.T.Ord.cmp c.loop-product-item.result.0.0 c.args.t.now)) refl c.loop-product.invariant.rest c.in_ok-take_in.ensures.rest (take_more c.args.products.now c.loop-product.product-index c.loop-product-item.result low ∙ ap (λ v. take c.loop-product.product-index c.args.products.now ++ v ∷ []) (sym c.loop-product-item.is));
    }

pub returns-clause-made : goal.returns-clause-made
returns-clause-made g c = walked_onto (products_at g.T.Ord.cmp c.args.t.now) c.args.made.now.items c.loop-product.made.items c.args.products.now c.args.products.now c.loop-product.product-index c.loop-product.invariant.made (omega arith) refl

pub returns-clause-rest : goal.returns-clause-rest
returns-clause-rest g c = c.loop-product.invariant.rest ∙ ap (λ v. normal (in_turn g.T.Ord.cmp g.O.Ord.cmp) (c.args.self.now ++ products_after g.T.Ord.cmp c.args.t.now v)) (take_all c.loop-product.product-index c.args.products.now (omega arith))
