-- The pairs with a first part are a range.
use Rattle.std.proofs.Common.{◌∙◌, ◌++◌, ap, subst, map}
use Rattle.std.specs.Prelude.{filter}
use Rattle.std.specs.Ordering.{is_eq}
use Rattle.std.proofs.lemmas.List.Elements.{All-map}
use Rattle.ordered_pairs.specs.Spans.{InSpan, IsSpanned}
use Rattle.ordered_pairs.specs.SpanLaws.{range_is}
use Rattle.diff_reduce.proofs.Outcomes.{OnOk-imply}
use Rattle.diff_reduce.proofs.pairs.Pairs.push_seconds.Goals as goal

pub returns : goal.returns
returns g c =
    let spanned = subst (λ s. IsSpanned g.B.Ord.cmp s c.self.inside.pairs.keys) c.in-Some.is c.self.invariant.1 in
    let found = c.range.ensures.between tt ∙ range_is g.A.Ord.cmp g.B.Ord.cmp g.met.A.Ord.total c.args.first.now (c.in-Some.low, c.in-Some.high) (λ p. p) c.self.inside.pairs.keys (All-map (λ p. InSpan g.B.Ord.cmp (c.in-Some.low, c.in-Some.high) p.1) (λ p. p) c.self.inside.pairs.keys spanned.1) ∙ ap (filter (λ p. is_eq (g.A.Ord.cmp p.0 c.args.first.now))) c.self.view_is in
    OnOk-imply c.push_all.result _ _ (λ is. is ∙ ap (λ ps. c.args.seconds.now ++ map (λ p. p.1) ps) found) c.push_all.ensures
