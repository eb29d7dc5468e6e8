-- One pair more.
use Rattle.std.proofs.Common.{inl, inr, sym, subst}
use Rattle.std.specs.List.{All, Contains}
use Rattle.std.proofs.lemmas.Map.Lookups.{exact_pairs}
use Rattle.std.proofs.lemmas.Map.Views.{All-insert_key}
use Rattle.trace_store.specs.Traces.{in_turn}
use Rattle.flow_core.specs.Runs.{Member}
use Rattle.diff_reduce.proofs.Elements.{contains_member, member_contains}
use Rattle.ordered_pairs.specs.Spans.{InSpan}
use Rattle.ordered_pairs.specs.SpanLaws.{spanned_more}
use Rattle.diff_reduce.proofs.PairLaws.{insert_old, insert_new, insert_only}
use Rattle.diff_reduce.proofs.pairs.Pairs.put.Goals as goal

pub invariant_of-self-2 : goal.invariant_of-self-2
invariant_of-self-2 g c = (
  c.in_ok-insert.ensures.ordered,
  spanned_more g.B.Ord.cmp g.met.B.Ord.total c.self.inside.span c.widened.result c.self.inside.pairs.keys c.insert.new.self.keys c.args.pair.1 c.self.invariant.1 c.widened.ensures.more c.widened.ensures.old
      (λ h. subst (λ ks. All (λ p. InSpan g.B.Ord.cmp c.widened.result p.1) ks) (sym c.in_ok-insert.ensures.keys) (All-insert_key (in_turn g.A.Ord.cmp g.B.Ord.cmp) c.args.pair (λ p. InSpan g.B.Ord.cmp c.widened.result p.1) c.self.inside.pairs.keys h c.widened.ensures.more)),
)

pub returns-clause-old : goal.returns-clause-old
returns-clause-old g c = λ p m. member_contains c.insert.new.self.keys p (subst (λ ks. Member p ks) (sym c.in_ok-insert.ensures.keys) (insert_old (in_turn g.A.Ord.cmp g.B.Ord.cmp) (exact_pairs g.A.Ord.cmp g.B.Ord.cmp g.met.A.Record.same g.met.B.Record.same) c.args.pair c.self.inside.pairs.keys p (contains_member c.self.inside.pairs.keys p (subst (λ ks. Contains ks p) (sym c.self.view_is) m))))

pub returns-clause-more : goal.returns-clause-more
returns-clause-more g c = member_contains c.insert.new.self.keys c.args.pair (subst (λ ks. Member c.args.pair ks) (sym c.in_ok-insert.ensures.keys) (insert_new (in_turn g.A.Ord.cmp g.B.Ord.cmp) (exact_pairs g.A.Ord.cmp g.B.Ord.cmp g.met.A.Record.same g.met.B.Record.same) c.args.pair c.self.inside.pairs.keys))

pub returns-clause-only : goal.returns-clause-only
returns-clause-only g c = λ p m. elim (insert_only (in_turn g.A.Ord.cmp g.B.Ord.cmp) (exact_pairs g.A.Ord.cmp g.B.Ord.cmp g.met.A.Record.same g.met.B.Record.same) c.args.pair c.self.inside.pairs.keys p (subst (λ ks. Member p ks) c.in_ok-insert.ensures.keys (contains_member c.insert.new.self.keys p m))) [
  | inl o ↦ inl (subst (λ ks. Contains ks p) c.self.view_is (member_contains c.self.inside.pairs.keys p o))
  | inr e ↦ inr e
]
