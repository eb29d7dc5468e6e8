-- One product more, in a wider span.
use Rattle.std.proofs.Common.{◌++◌, ◌∷◌, []}
use Rattle.std.specs.Map.{keys_of}
use Rattle.std.proofs.lemmas.Map.Lookups.{exact_pairs}
use Rattle.weighted.specs.Batches.{IsBatch-normal}
use Rattle.trace_store.specs.TraceLaws.{in_turn-total}
use Rattle.trace_store.specs.Traces.{in_turn}
use Rattle.ordered_pairs.specs.Spans.{InSpan}
use Rattle.ordered_pairs.specs.SpanLaws.{spanned_more}
use Rattle.diff_join.proofs.Weights.{keys_more}
use Rattle.diff_join.proofs.kept.Kept.add.Goals as goal

pub invariant_of-self-2 : goal.invariant_of-self-2
invariant_of-self-2 g c =
    let cmp = in_turn g.T.Ord.cmp g.O.Ord.cmp in
    let old = c.self.inside.products.entries in (
      rw c.in_ok-add_weight.ensures.sums (IsBatch-normal cmp (in_turn-total {acmp = g.T.Ord.cmp} {bcmp = g.O.Ord.cmp} g.met.T.Ord.total g.met.O.Ord.total) (exact_pairs g.T.Ord.cmp g.O.Ord.cmp g.met.T.Record.same g.met.O.Record.same) (old ++ (c.args.product, c.args.weight) ∷ [])),
      spanned_more g.O.Ord.cmp g.met.O.Ord.total c.self.inside.span c.widened.result (keys_of old) (keys_of c.add_weight.new.products.entries) c.args.product.1 c.self.invariant.1 c.widened.ensures.more c.widened.ensures.old (keys_more (λ p. InSpan g.O.Ord.cmp c.widened.result p.1) cmp old c.add_weight.new.products.entries c.args.product c.args.weight c.in_ok-add_weight.ensures.sums c.widened.ensures.more),
    )
