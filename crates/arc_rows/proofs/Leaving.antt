-- How many arcs leave each node in a view, counted row by row.
use Rattle.std.proofs.Common.{◌≡◌, ◌∙◌, ◌<◌, ◌≤◌, ◌+◌, ◌^◌, sym, ap, subst, refl, ℕ, Bool, true, false, List, length, get_or, set, take, filter, cond, arith, inl, inr, length-set}
use Rattle.std.specs.Prelude.{All, Contains, ◌≢◌, ◌==◌, if◌then◌else◌}
use Rattle.std.specs.List.Sorted.{IsPermutation}
use Rattle.std.proofs.lemmas.Bool.{cases_Bool, cases_eq}
use Rattle.std.proofs.lemmas.Grind.{get_or-set_at}
use Rattle.std.proofs.lemmas.List.{get_or-set_other, length-take, take_all}
use Rattle.std.proofs.lemmas.List.Elements.{All-contains}
use Rattle.std.proofs.lemmas.List.Sorted.{sum_by-IsPermutation}
use Rattle.std.proofs.lemmas.List.Sums.{length-filter}
use Rattle.graph_model.specs.GraphData.{GraphData}
use Rattle.multisets.specs.SumLaws.{picked-sum, sum-same}
use Rattle.vertex_lang.specs.declared.arc.Arc.{Arc}
use Rattle.vertex_lang.specs.Arcs.{outdeg}
use Rattle.arc_rows.specs.Counts.{AreCounted, AreCountedIf}
use Rattle.arc_rows.specs.Views.{arcs_in, in_view, IsTurned}
use Rattle.arc_rows.specs.ViewLaws.{same-degree, same-or-turned}
use Rattle.arc_rows.proofs.Counted.{degree-small}
use Rattle.arc_rows.specs.ListLaws.{clash, more-of}

exchanged : (b c : Bool) → ◌≡◌ {A = ℕ} (if b then cond c 1 0 else 0) (if c then cond b 1 0 else 0)
exchanged true true = refl
exchanged true false = refl
exchanged false true = refl
exchanged false false = refl

-- in the row of a node stand as many arcs of the view as leave the node
pub leaving : (edges : List Bool) (u : ℕ) (by_head by_tail : List Arc) → IsPermutation by_head by_tail
    → length (arcs_in (filter (λ a. a.tail.0 == u) by_tail) edges) ≡ outdeg (arcs_in by_head edges) u
leaving edges u by_head by_tail same =
    let from : Arc → Bool = λ a. a.tail.0 == u in
    let inside : Arc → ℕ = λ a. cond (in_view edges a) 1 0 in
    let here : Arc → ℕ = λ a. cond (a.tail.0 == u) 1 0 in
    length-filter (in_view edges) (filter from by_tail)
    ∙ picked-sum inside from by_tail
    ∙ sum_by-IsPermutation (λ (a : Arc). if from a then inside a else 0) by_head by_tail same
    ∙ sum-same (λ (a : Arc). if from a then inside a else 0) (λ (a : Arc). if in_view edges a then here a else 0) by_head (λ a. exchanged (from a) (in_view edges a))
    ∙ sym (picked-sum here (in_view edges) by_head)

-- ---- the tails of some arcs counted anew, one after the other

-- the number of each node that is done is that of the new view; that of each other one is still that of the old one, and none of the arcs
-- leaves it
pub record AreTurning (graph : GraphData) (all : List Arc) (old new : List Bool) (turned : List Arc) (degrees : List ℕ) (done : List Bool) : Type 0 where
  pub size : length degrees ≡ length graph.ids
  pub done_size : length done ≡ length graph.ids
  pub counted : (u : ℕ) → get_or done u false ≡ true → get_or degrees u 0 ≡ outdeg (arcs_in all new) u
  pub others : (u : ℕ) → u < length graph.ids → get_or done u false ≡ false → (get_or degrees u 0 ≡ outdeg (arcs_in all old) u) × All (λ a. a.tail.0 ≢ u) turned

module _ (graph : GraphData) (all : List Arc) (old new : List Bool) (turned : List Arc) where
  pub turning-none : (degrees : List ℕ) (done : List Bool) → AreCounted graph all old degrees → length done ≡ length graph.ids → ((u : ℕ) → get_or done u false ≡ false)
      → AreTurning graph all old new (take 0 turned) degrees done
  turning-none degrees done had size none = record {
    size = had.size;
    done_size = size;
    counted = λ u t. absurd (clash (get_or done u false) (none u) t);
    others = λ u low f. (had.each u low, λ k d under. absurd (omega (arith, under, length-take 0 turned)));
  }

  module _ (i : ℕ) (d : Arc) (low : i < length turned) (degrees : List ℕ) (done : List Bool) (was : AreTurning graph all old new (take i turned) degrees done) where
    more-left : (u : ℕ) → ((get_or turned i d).tail.0 ≢ u) → All (λ a. a.tail.0 ≢ u) (take i turned) → All (λ a. a.tail.0 ≢ u) (take (i + 1) turned)
    more-left u other each = more-of (λ (a : Arc). a.tail.0 ≢ u) (λ (a : Arc). a.tail.0 ≢ u) turned i d low (λ a h. h) each other

    pub turning-next : (n : ℕ) → (get_or turned i d).tail.0 < length graph.ids → n ≡ outdeg (arcs_in all new) (get_or turned i d).tail.0
        → AreTurning graph all old new (take (i + 1) turned) (set degrees (get_or turned i d).tail.0 n) (set done (get_or turned i d).tail.0 true)
    turning-next n within e =
        let t = (get_or turned i d).tail.0 in
        record {
          size = omega (arith, was.size, length-set {A = ℕ});
          done_size = omega (arith, was.done_size, length-set {A = Bool});
          counted = λ u set_is. elim (cases_eq u t) [
            | inl same ↦ get_or-set_at degrees t u n 0 same (omega (arith, within, was.size)) ∙ e ∙ ap (λ k. outdeg (arcs_in all new) k) (sym same)
            | inr other ↦ get_or-set_other degrees t u n 0 other ∙ was.counted u (sym (get_or-set_other done t u true false other) ∙ set_is)
          ];
          others = λ u under unset. elim (cases_eq u t) [
            | inl same ↦ absurd (clash (get_or (set done t true) u false) unset (get_or-set_at done t u true false same (omega (arith, within, was.done_size))))
            | inr other ↦
                let still = was.others u under (sym (get_or-set_other done t u true false other) ∙ unset) in
                (get_or-set_other degrees t u n 0 other ∙ still.0, more-left u (λ at. other (sym at)) still.1)
          ];
        }

    -- a node that is done already is passed over
    pub turning-same : get_or done (get_or turned i d).tail.0 false ≡ true → AreTurning graph all old new (take (i + 1) turned) degrees done
    turning-same t = record {
      size = was.size;
      done_size = was.done_size;
      counted = was.counted;
      others = λ u under unset.
          let still = was.others u under unset in
          (still.0, more-left u (λ at. clash (get_or done u false) unset (sym (ap (λ k. get_or done k false) at) ∙ t)) still.1);
    }

  pub turning-end : (i : ℕ) (degrees : List ℕ) (done : List Bool) → length turned ≤ i → All (λ a. IsTurned old new a → Contains turned a) all → AreTurning graph all old new (take i turned) degrees done → AreCounted graph all new degrees
  turning-end i degrees done end told was = record {
    size = was.size;
    each = λ u under. elim (cases_Bool (get_or done u false)) [
      | inl t ↦ was.counted u t
      | inr f ↦
          let still = was.others u under f in
          still.0 ∙ sym (same-degree old new u all (λ k d low at.
          same-or-turned (in_view old (get_or all k d)) (in_view new (get_or all k d)) (λ t.
          All-contains (λ (a : Arc). a.tail.0 ≢ u) turned (get_or all k d) (subst (λ (xs : List Arc). All (λ a. a.tail.0 ≢ u) xs) (take_all i turned end) still.1) (told k d low t) at)))
    ];
  }

-- what is counted is small
pub counted-if : (asked : Bool) (graph : GraphData) (all : List Arc) (edges : List Bool) (degrees : List ℕ) → length all < 2 ^ 32 → AreCounted graph all edges degrees → AreCountedIf asked graph all edges degrees
counted-if asked graph all edges degrees few had = record {
  size = had.size;
  small = λ u low. omega (arith, had.each u low, degree-small all edges u, few);
  each = λ _ u low. had.each u low;
}
