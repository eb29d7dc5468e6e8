-- What the arcs into a node bring is what the node gets.
use Rattle.std.proofs.Common.{◌≡◌, ◌∙◌, ◌<◌, ◌∷◌, [], ap, refl, ℕ, Bool, true, false, List, length, get_or, map, filter, inl, inr}
use Rattle.std.specs.Prelude.{All, ◌==◌, if◌then◌else◌}
use Rattle.std.proofs.lemmas.Bool.{cases_Bool}
use Rattle.std.proofs.lemmas.List.Elements.{All-head, All-tail, All-weaker}
use Rattle.graph_model.specs.declared.value.Val.{Val}
use Rattle.graph_model.specs.declared.value.Val.TheVariants.{Nil, Num}
use Rattle.graph_model.specs.GraphData.{GraphData}
use Rattle.vertex_lang.specs.declared.arc.Arc.{Arc}
use Rattle.vertex_lang.specs.declared.program.Program.{Program}
use Rattle.vertex_lang.specs.Arcs.{is_sent, IsArc, outdeg}
use Rattle.vertex_lang.specs.Expressions.{Answer, sent_by, send_words}
use Rattle.vertex_lang.specs.Rounds.{value_at, carried, lone}
use Rattle.lone_work.specs.Inputs.{got_values}
use Rattle.arc_rows.specs.Views.{in_view, arcs_in, row_of}
use Rattle.round_messages.specs.Sides.{brings, all_brought}
use Rattle.round_inputs.specs.Inputs.{IsRound}
use Rattle.round_inputs.specs.Movers.{sent_in}

sent-cons : (v w : Val) (vs ws : List Val) → v ≡ w → filter is_sent vs ≡ filter is_sent ws → filter is_sent (v ∷ vs) ≡ filter is_sent (w ∷ ws)
sent-cons v w vs ws e h = ap (λ (x : Val). filter is_sent (x ∷ vs)) e ∙ with-one w where
  with-one : (x : Val) → filter is_sent (x ∷ vs) ≡ filter is_sent (x ∷ ws)
  with-one Nil = h
  with-one (Num z) = ap (λ (xs : List Val). Num z ∷ xs) h

sent-none : (v : Val) (vs : List Val) → v ≡ Nil → filter is_sent (v ∷ vs) ≡ filter is_sent vs
sent-none v vs e = ap (λ (x : Val). filter is_sent (x ∷ vs)) e

-- none is brought by arcs that are not picked, and by the others the same
pub record AreAlike (f : Arc → Bool) (b c : Arc → Val) (a : Arc) : Type 0 where
  pub picked : f a ≡ true → b a ≡ c a
  pub left : f a ≡ false → b a ≡ Nil

module _ (f h : Arc → Bool) (b c : Arc → Val) where
  pub brought-list : (xs : List Arc) → All (AreAlike f b c) xs → filter is_sent (map b (filter h xs)) ≡ filter is_sent (map c (filter h (filter f xs)))
  brought-list [] each = refl
  brought-list (a ∷ xs) each =
      let rest = brought-list xs (All-tail (AreAlike f b c) a xs each) in
      let here = All-head (AreAlike f b c) a xs each in
      elim (cases_Bool (f a)) [
        | inl ef ↦ elim (cases_Bool (h a)) [
          | inl eh ↦ rw (ef, eh) (sent-cons (b a) (c a) (map b (filter h xs)) (map c (filter h (filter f xs))) (here.picked ef) rest)
          | inr eh ↦ rw (ef, eh) rest
        ]
        | inr ef ↦ elim (cases_Bool (h a)) [
          | inl eh ↦ rw (ef, eh) (sent-none (b a) (map b (filter h xs)) (here.left ef) ∙ rest)
          | inr eh ↦ rw (ef, eh) rest
        ]
      ]

chosen : (b : Bool) (x y : Val) → b ≡ true → (if b then x else y) ≡ x
chosen true x y e = refl
chosen false x y e = absurd cc

left-out : (b : Bool) (x y : Val) → b ≡ false → (if b then x else y) ≡ y
left-out true x y e = absurd cc
left-out false x y e = refl

module _ (answer : Answer) (p : Program) (graph : GraphData) (all : List Arc) (edges : List Bool) (degrees : List ℕ) (values : List Val) (r : ℕ) (is : IsRound answer p graph all edges degrees values r) where
  carries : Arc → Val
  carries = carried p graph (arcs_in all edges) (lone answer p graph (arcs_in all edges) r)

  -- the message is the same by the number that is kept
  counted-as : (u e : ℕ) (v : Val) → u < length graph.ids → sent_by p graph u v (get_or degrees u 0) e ≡ sent_by p graph u v (outdeg (arcs_in all edges) u) e
  counted-as u e v low = elim is.degrees_are [
    | inl ignores ↦ ignores (send_words graph u v 0 e) (get_or degrees u 0) (outdeg (arcs_in all edges) u)
    | inr are ↦ ap (λ n. sent_by p graph u v n e) (are u low)
  ]

  -- it is that of the round
  pub sent-is : (u e : ℕ) → u < length graph.ids → sent_by p graph u (value_at values u) (get_or degrees u 0) e ≡ sent_in answer p graph (arcs_in all edges) r u e
  sent-is u e low = counted-as u e (value_at values u) low ∙ ap (λ (vs : List Val). sent_by p graph u (value_at vs u) (outdeg (arcs_in all edges) u) e) is.values_are

  alike : (a : Arc) → IsArc graph a → AreAlike (in_view edges) (brings p graph edges degrees values) carries a
  unfolding carries
  alike a arc = record {
    picked = λ e. chosen (in_view edges a) (sent_by p graph a.tail.0 (value_at values a.tail.0) (get_or degrees a.tail.0 0) a.edge.0) Nil e
        ∙ sent-is a.tail.0 a.edge.0 arc.tail;
    left = λ e. left-out (in_view edges a) (sent_by p graph a.tail.0 (value_at values a.tail.0) (get_or degrees a.tail.0 0) a.edge.0) Nil e;
  }

  pub brought-is : (v : ℕ) → All (IsArc graph) all → all_brought p graph edges degrees values (row_of all v) ≡ got_values answer p graph (arcs_in all edges) v r
  unfolding carries
  brought-is v arcs = brought-list (in_view edges) (λ a. a.head.0 == v) (brings p graph edges degrees values) carries all (All-weaker (IsArc graph) (AreAlike (in_view edges) (brings p graph edges degrees values) carries) alike all arcs)

  -- the same of a list that is the row
  pub brought-row : (v : ℕ) (row : List Arc) → All (IsArc graph) all → row ≡ row_of all v → all_brought p graph edges degrees values row ≡ got_values answer p graph (arcs_in all edges) v r
  brought-row v row arcs e = ap (λ (xs : List Arc). all_brought p graph edges degrees values xs) e ∙ brought-is v arcs
