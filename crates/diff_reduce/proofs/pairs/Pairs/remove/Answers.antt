-- The others, in their order.
use Rattle.std.proofs.Common.{sym, subst}
use Rattle.std.specs.Prelude.{filter}
use Rattle.std.specs.List.Sorted.{IsStrictlySortedBy}
use Rattle.std.specs.Ordering.{is_ne}
use Rattle.std.proofs.lemmas.List.Elements.{All-filter}
use Rattle.std.proofs.lemmas.List.Kept.{IsStrictlySortedBy-filter}
use Rattle.trace_store.specs.Traces.{in_turn}
use Rattle.ordered_pairs.specs.Spans.{IsSpanned}
use Rattle.ordered_pairs.specs.SpanLaws.{spanned_less}
use Rattle.diff_reduce.proofs.pairs.Pairs.remove.Goals as goal

pub invariant_of-self : goal.invariant_of-self
invariant_of-self g c = subst (λ ks. IsStrictlySortedBy (in_turn g.A.Ord.cmp g.B.Ord.cmp) ks × IsSpanned g.B.Ord.cmp c.self.inside.span ks) (sym c.take_out.ensures)
    (IsStrictlySortedBy-filter (in_turn g.A.Ord.cmp g.B.Ord.cmp) (λ p. is_ne (g.A.Ord.cmp p.0 c.args.first.now)) c.self.inside.pairs.keys c.self.invariant.0, spanned_less g.B.Ord.cmp c.self.inside.span c.self.inside.pairs.keys (filter (λ p. is_ne (g.A.Ord.cmp p.0 c.args.first.now)) c.self.inside.pairs.keys) (λ P h. All-filter (λ p. is_ne (g.A.Ord.cmp p.0 c.args.first.now)) P c.self.inside.pairs.keys h) c.self.invariant.1)
