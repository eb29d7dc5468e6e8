-- What `wcc` means.
use Rattle.std.specs.Prelude.{◌≡◌, ◌⊎◌, ℕ, pos, ◌≤◌, ◌<◌, ◌^◌, List, [], ◌∷◌, ◌++◌, flat_map, All, Contains, length, sum_by, refl}
use Rattle.std.proofs.Common.{arith, ap, sym, subst, ◌∙◌, inl, inr}
use Rattle.std.proofs.lemmas.List.Sums.{sum_by-cons}
use Rattle.std.proofs.lemmas.List.Elements.{All-contains, Contains-append_left, Contains-append_right}
use Rattle.graph_model.specs.declared.number.EdgeNo.{EdgeNo}
use Rattle.graph_model.specs.declared.value.Val.{Val}
use Rattle.graph_model.specs.declared.value.Val.TheVariants.{Num}
use Rattle.graph_model.specs.GraphData.{GraphData, id_of}
use Rattle.walk_theory.specs.Walks.{IsWayBack}
use Rattle.walk_theory.specs.Joining.{walk-after}
use Rattle.walk_theory.specs.Turning.{turned}
use Rattle.vertex_lang.specs.declared.arc.Arc.{Arc}
use Rattle.vertex_lang.specs.declared.program.Along.TheVariants as along
use Rattle.vertex_lang.specs.ArcLaws.{arcs-run, arcs-come}
use Rattle.vertex_lang.specs.Arcs.{IsArc, outdeg, forward, backward, arcs_of_edge, arcs_between}
use Rattle.vertex_lang.specs.Directions.{RunsAlong}
use Rattle.vertex_lang.specs.Expressions.{start_of, start_words, send_words, updated}
use Rattle.vertex_lang.specs.ExtremeLaws.{contains-here, contains-there, contains-none, contains-cases}
use Rattle.vertex_lang.specs.Lone.{answer_of}
use Rattle.vertex_lang.specs.Rounds.{value_at, carried}
use Rattle.vertex_lang.specs.Trees.{value-Id, value-Value}
use Rattle.graph_meanings.specs.Clamping.{top, same-number, same-natural}
use Rattle.graph_meanings.specs.Laws.{ComponentsMean, ComponentsSettle, AreClasses, ComponentsAreClasses}
use Rattle.graph_meanings.specs.LeastCosts.{HasCost, AddsWeights}
use Rattle.graph_meanings.specs.Meanings.{ends, HasIdInComponent}
use Rattle.graph_meanings.specs.SettledCosts.{AnyCost, AreSmall, means, settles}
use Rattle.graph_meanings.specs.SourceLaws.{least-of}
use Rattle.graph_algos.specs.Wcc.{wcc}

-- an arc adds nothing
abbrev nothing : Arc → ℕ
nothing a = 0

no-weight : (walk : List Arc) → sum_by nothing walk ≡ 0
no-weight [] = refl
no-weight (a ∷ walk) = omega (arith, no-weight walk, sum_by-cons nothing a walk)

starts-id : (graph : GraphData) (v : ℕ) → start_of wcc graph v ≡ Num (pos (id_of graph v))
starts-id graph v = value-Id (start_words graph v)

sends-value : (graph : GraphData) (arcs : List Arc) (values : List Val) (a : Arc) → carried wcc graph arcs values a ≡ value_at values a.tail.0
sends-value graph arcs values a = value-Value (send_words graph a.tail.0 (value_at values a.tail.0) (outdeg arcs a.tail.0) a.edge.0)

module _ (graph : GraphData) (arcs : List Arc) (small : All (λ id. id < 2 ^ 63) graph.ids) where
  id-fits : (v : ℕ) → v < length graph.ids → id_of graph v ≤ top
  id-fits v low = let under : id_of graph v < 2 ^ 63 = small v 0 low in omega arith

  wcc-adds : AddsWeights wcc graph arcs nothing
  wcc-adds = record {
    gathers = refl;
    updates = refl;
    starts = λ v z low e. (id_of graph v, same-number z (pos (id_of graph v)) (sym e ∙ starts-id graph v), id-fits v low);
    carries = λ values a m given e. (m, sends-value graph arcs values a ∙ e, omega arith, omega arith);
    brings = λ values a z given e. (z, sym (sends-value graph arcs values a) ∙ e);
  }

  id-from : (v n : ℕ) → start_of wcc graph v ≡ Num (pos n) → id_of graph v ≡ n
  id-from v n e = same-natural (id_of graph v) n (same-number (pos (id_of graph v)) (pos n) (sym (starts-id graph v) ∙ e))

  member-from : (most v n : ℕ) → HasCost wcc graph arcs nothing most v n → HasIdInComponent graph arcs v n
  member-from most v n c = record {
    member = c.from;
    within = c.within;
    joined = record { walk = c.walk; leads = c.leads };
    named = omega (arith, id-from c.from c.first c.starts, c.sums, no-weight c.walk);
  }

  cost-of-member : (v n : ℕ) → HasIdInComponent graph arcs v n → (most : ℕ) × HasCost wcc graph arcs nothing most v n
  cost-of-member v n h = (
    length h.joined.walk,
    record {
      from = h.member;
      first = n;
      within = h.within;
      starts = starts-id graph h.member ∙ ap (λ (k : ℕ). Num (pos k)) h.named;
      walk = h.joined.walk;
      leads = h.joined.leads;
      short = omega arith;
      sums = omega (arith, no-weight h.joined.walk);
    },
  )

  module _ (are_arcs : All (IsArc graph) arcs) where
    wcc-small : AreSmall wcc graph arcs are_arcs nothing wcc-adds
    wcc-small from first walk low e short light = omega (arith, id-fits from low, id-from from first e, no-weight walk)

pub components-mean : ComponentsMean
components-mean graph arcs limit small are_arcs settled v low =
    let adds = wcc-adds graph arcs small in
    least-of (AnyCost wcc graph arcs are_arcs nothing adds v) (HasIdInComponent graph arcs v) (value_at (answer_of updated wcc graph arcs limit).values v)
    (λ n c. member-from graph arcs small c.0 v n c.1)
    (λ n h. cost-of-member graph arcs small v n h)
    (means wcc graph arcs are_arcs nothing adds (wcc-small graph arcs small are_arcs) limit settled v low)

pub components-settle : ComponentsSettle
components-settle graph arcs limit small are_arcs some enough = settles wcc graph arcs are_arcs nothing (wcc-adds graph arcs small) limit some enough

-- ---- components are classes

contains-flat : (f : EdgeNo → List Arc) (edges : List EdgeNo) (e : EdgeNo) (a : Arc) → Contains edges e → Contains (f e) a → Contains (flat_map f edges) a
contains-flat f [] e a h k = absurd (contains-none e h)
contains-flat f (d ∷ edges) e a h k = elim (contains-cases d edges e h) [
  | inl here ↦ Contains-append_left (f d) (flat_map f edges) a (subst (λ (x : EdgeNo). Contains (f x) a) (sym here) k)
  | inr later ↦ Contains-append_right (f d) (flat_map f edges) a (contains-flat f edges e a later k)
]

module _ (graph : GraphData) (edges : List EdgeNo) where
  abbrev both : List Arc
  both = arcs_between along.Both graph edges

  goes-forward : (e : EdgeNo) → Contains edges e → Contains both (forward graph e)
  goes-forward e h = contains-flat (arcs_of_edge along.Both graph) edges e (forward graph e) h (contains-here (forward graph e) (backward graph e ∷ []))

  goes-back : (e : EdgeNo) → Contains edges e → Contains both (backward graph e)
  goes-back e h = contains-flat (arcs_of_edge along.Both graph) edges e (backward graph e) h (contains-there (forward graph e) (backward graph e ∷ []) (backward graph e) (contains-here (backward graph e) []))

  way-back-by : (a : Arc) → Contains edges a.edge → (a ≡ forward graph a.edge) ⊎ (a ≡ backward graph a.edge) → IsWayBack ends both a
  way-back-by a h (inl e) = record { arc = backward graph a.edge; given = goes-back a.edge h; tail = sym (ap (λ (b : Arc). b.head.0) e); head = sym (ap (λ (b : Arc). b.tail.0) e) }
  way-back-by a h (inr e) = record { arc = forward graph a.edge; given = goes-forward a.edge h; tail = sym (ap (λ (b : Arc). b.head.0) e); head = sym (ap (λ (b : Arc). b.tail.0) e) }

  way-back : (a : Arc) → Contains both a → IsWayBack ends both a
  way-back a h = way-back-by a (All-contains (λ b. Contains edges b.edge) both a (arcs-come along.Both graph edges) h) (All-contains (RunsAlong along.Both graph) both a (arcs-run along.Both graph edges) h)

  both-classes : AreClasses both
  both-classes = record {
    itself = λ u. record { walk = []; leads = refl };
    turned = λ u v h. turned ends both way-back u h.walk v h.leads;
    joined = λ u v w h k. record { walk = h.walk ++ k.walk; leads = walk-after ends both u h.walk v k.walk w h.leads k.leads };
  }

pub components-are-classes : ComponentsAreClasses
components-are-classes graph arcs h = subst AreClasses (sym h.same) (both-classes graph h.edges)
