-- What `hops` means.
use Rattle.std.specs.Prelude.{◌≡◌, ℕ, ℤ, pos, ◌≤◌, true, List, All, length, sum_by, refl}
use Rattle.std.proofs.Common.{arith, ap, sym, ◌∙◌}
use Rattle.walk_theory.specs.Weighing.{sum-of-ones}
use Rattle.graph_model.specs.declared.value.Val.{Val}
use Rattle.graph_model.specs.declared.value.Val.TheVariants.{Num}
use Rattle.graph_model.specs.GraphData.{GraphData}
use Rattle.vertex_lang.specs.declared.arc.Arc.{Arc}
use Rattle.vertex_lang.specs.declared.program.Expr.TheVariants as expr
use Rattle.vertex_lang.specs.Arcs.{IsArc, outdeg}
use Rattle.vertex_lang.specs.Expressions.{send_words, updated}
use Rattle.vertex_lang.specs.Lone.{answer_of}
use Rattle.vertex_lang.specs.Rounds.{value_at, carried}
use Rattle.vertex_lang.specs.Trees.{value-Number}
use Rattle.vertex_lang.specs.Values.{added}
use Rattle.graph_meanings.specs.Clamping.{same-natural}
use Rattle.graph_algos.specs.Hops.{hops}
use Rattle.graph_meanings.specs.Laws.{HopsMean, HopsSettle}
use Rattle.graph_meanings.specs.LeastCosts.{AddsWeights}
use Rattle.graph_meanings.specs.Meanings.{HasWalk}
use Rattle.graph_meanings.specs.SettledCosts.{AnyCost, AreSmall, means, settles}
use Rattle.graph_meanings.specs.SourceLaws.{sum-is, sum-carries, sum-brings, least-of, source-starts, walk-from, cost-from}

-- each arc counts one
abbrev one : Arc → ℕ
one a = 1

one-more : (s : ℤ) (graph : GraphData) (arcs : List Arc) (values : List Val) (a : Arc) → carried (hops s) graph arcs values a ≡ added true (value_at values a.tail.0) (Num (pos 1))
one-more s graph arcs values a =
    let words = send_words graph a.tail.0 (value_at values a.tail.0) (outdeg arcs a.tail.0) a.edge.0 in
    sum-is (expr.Number (pos 1)) words ∙ ap (λ (x : Val). added true (value_at values a.tail.0) x) (value-Number (pos 1) words)

hops-adds : (s : ℤ) (graph : GraphData) (arcs : List Arc) → AddsWeights (hops s) graph arcs one
hops-adds s graph arcs = record {
  gathers = refl;
  updates = refl;
  starts = λ v z low e. (0, (source-starts s graph v z e).1, omega arith);
  carries = λ values a m given e. sum-carries (value_at values a.tail.0) (carried (hops s) graph arcs values a) m 1 (one-more s graph arcs values a) e;
  brings = λ values a z given e. sum-brings (value_at values a.tail.0) (carried (hops s) graph arcs values a) 1 z (one-more s graph arcs values a) e;
}

ones : (walk : List Arc) → length walk ≡ sum_by one walk
ones walk = sym (sum-of-ones walk)

module _ (s : ℤ) (graph : GraphData) (arcs : List Arc) (are_arcs : All (IsArc graph) arcs) where
  hops-small : length graph.ids ≤ 1_000_000 → AreSmall (hops s) graph arcs are_arcs one (hops-adds s graph arcs)
  hops-small few from first walk low e short light =
      let none = same-natural first 0 (source-starts s graph from (pos first) e).1 in
      omega (arith, none, ones walk)

pub hops-mean : HopsMean
hops-mean graph arcs s limit few are_arcs settled v low =
    least-of (AnyCost (hops s) graph arcs are_arcs one (hops-adds s graph arcs) v) (HasWalk graph arcs length s v) (value_at (answer_of updated (hops s) graph arcs limit).values v)
    (λ n c. walk-from (hops s) s refl graph arcs one length ones c.0 v n c.1)
    (λ n h. cost-from (hops s) s refl graph arcs one length ones v n h)
    (means (hops s) graph arcs are_arcs one (hops-adds s graph arcs) (hops-small s graph arcs are_arcs few) limit settled v low)

pub hops-settle : HopsSettle
hops-settle graph arcs s limit are_arcs some enough = settles (hops s) graph arcs are_arcs one (hops-adds s graph arcs) limit some enough
