-- The products of one time are a range; without them the others stay.
use Rattle.std.proofs.Common.{◌≡◌, ◌∙◌, ◌++◌, [], ap, sym, subst}
use Rattle.std.specs.Map.{keys_of}
use Rattle.std.specs.Ordering.{is_ne}
use Rattle.weighted.specs.Batches.{IsBatch}
use Rattle.weighted.specs.WordLaws.{mapped}
use Rattle.trace_store.specs.Traces.{in_turn}
use Rattle.ordered_pairs.specs.Spans.{IsSpanned}
use Rattle.ordered_pairs.specs.SpanLaws.{spanned_less}
use Rattle.diff_join.specs.Joins.{products_after, products_at}
use Rattle.diff_join.proofs.Waiting.{batch_part, keys_part, no_entry, range_at}
use Rattle.diff_join.proofs.kept.Kept.release.Goals as goal

pub take_out-requires : goal.take_out-requires
take_out-requires g c =
    let spanned = subst (λ s. IsSpanned g.O.Ord.cmp s (keys_of c.self.inside.products.entries)) c.in-Some.is c.self.invariant.1 in
    let found = ap (mapped (λ r. r.1)) (c.range.ensures.between tt) ∙ range_at g.T.Ord.cmp g.O.Ord.cmp g.met.T.Ord.total c.args.t.now (c.in-Some.low, c.in-Some.high) c.self.inside.products.entries spanned.1 in
    sym (c.as_slice.ensures.value ∙ c.in_ok-push_outputs.ensures ∙ ap (λ v. v ++ mapped (λ r. r.1) c.range.result) c.new-outputs.ensures.items ∙ found)

pub invariant_of-self : goal.invariant_of-self
invariant_of-self g c =
    let old = c.self.inside.products.entries in
    subst (λ es. IsBatch (in_turn g.T.Ord.cmp g.O.Ord.cmp) es × IsSpanned g.O.Ord.cmp c.self.inside.span (keys_of es)) (sym c.take_out.ensures) (
      batch_part (in_turn g.T.Ord.cmp g.O.Ord.cmp) (λ r. is_ne (g.T.Ord.cmp r.0 c.args.t.now)) old c.self.invariant.0,
      spanned_less g.O.Ord.cmp c.self.inside.span (keys_of old) (keys_of (products_after g.T.Ord.cmp c.args.t.now old)) (λ P h. keys_part (λ r. is_ne (g.T.Ord.cmp r.0 c.args.t.now)) P old h) c.self.invariant.1,
    )

pub returns-in_default-clause-made : goal.returns-in_default-clause-made
returns-in_default-clause-made g c =
    let none : c.args.self.now ≡ [] = sym c.self.view_is ∙ no_entry c.self.inside.products.entries (subst (λ s. IsSpanned g.O.Ord.cmp s (keys_of c.self.inside.products.entries)) c.in_default.is c.self.invariant.1) in
    c.new-outputs.ensures.items ∙ ap (products_at g.T.Ord.cmp c.args.t.now) (sym none)

pub returns-in_default-clause-rest : goal.returns-in_default-clause-rest
returns-in_default-clause-rest g c =
    let none : c.args.self.now ≡ [] = sym c.self.view_is ∙ no_entry c.self.inside.products.entries (subst (λ s. IsSpanned g.O.Ord.cmp s (keys_of c.self.inside.products.entries)) c.in_default.is c.self.invariant.1) in
    none ∙ ap (products_after g.T.Ord.cmp c.args.t.now) (sym none)

pub returns-in_default-clause-batch : goal.returns-in_default-clause-batch
returns-in_default-clause-batch g c = subst (λ es. IsBatch (in_turn g.T.Ord.cmp g.O.Ord.cmp) es) c.self.view_is c.self.invariant.0

pub returns-clause-made : goal.returns-clause-made
returns-clause-made g c =
    let spanned = subst (λ s. IsSpanned g.O.Ord.cmp s (keys_of c.self.inside.products.entries)) c.in-Some.is c.self.invariant.1 in
    let found = ap (mapped (λ r. r.1)) (c.range.ensures.between tt) ∙ range_at g.T.Ord.cmp g.O.Ord.cmp g.met.T.Ord.total c.args.t.now (c.in-Some.low, c.in-Some.high) c.self.inside.products.entries spanned.1 in
    c.in_ok-push_outputs.ensures ∙ ap (λ v. v ++ mapped (λ r. r.1) c.range.result) c.new-outputs.ensures.items ∙ found ∙ ap (products_at g.T.Ord.cmp c.args.t.now) c.self.view_is

pub returns-clause-batch : goal.returns-clause-batch
returns-clause-batch g c = subst (λ es. IsBatch (in_turn g.T.Ord.cmp g.O.Ord.cmp) es) (sym c.take_out.ensures) (batch_part (in_turn g.T.Ord.cmp g.O.Ord.cmp) (λ r. is_ne (g.T.Ord.cmp r.0 c.args.t.now)) c.self.inside.products.entries c.self.invariant.0)
