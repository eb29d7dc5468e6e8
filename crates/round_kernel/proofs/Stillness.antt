-- Where no tail sends something else and no arc is turned, a node gets the same.
use Rattle.std.proofs.Common.{◌≡◌, ◌∙◌, ◌<◌, ◌-◌, ◌∷◌, [], sym, ap, subst, refl, ℕ, Bool, true, false, List, length, get_or, map, filter, inl, inr}
use Rattle.std.specs.Prelude.{All, ◌==◌, ◌||◌, not}
use Rattle.std.proofs.lemmas.Bool.{cases_Bool, eqb-false}
use Rattle.std.proofs.lemmas.List.Elements.{All-head, All-tail, All-cons, All-nil}
use Rattle.graph_model.specs.declared.value.Val.{Val}
use Rattle.graph_model.specs.GraphData.{GraphData}
use Rattle.vertex_lang.specs.declared.arc.Arc.{Arc}
use Rattle.vertex_lang.specs.declared.program.Program.{Program}
use Rattle.vertex_lang.specs.Arcs.{is_sent, IsArc, outdeg}
use Rattle.vertex_lang.specs.Expressions.{Answer, sent_by}
use Rattle.vertex_lang.specs.Lone.{same_value}
use Rattle.vertex_lang.specs.Rounds.{carried, lone, value_at}
use Rattle.vertex_lang.specs.GatherLaws.{values-exact}
use Rattle.multisets.specs.Multisets.{are_one}
use Rattle.multisets.specs.CountLaws.{one-tells, one-refl}
use Rattle.lone_work.specs.Inputs.{got_values}
use Rattle.round_kernel.specs.declared.suspects.Suspects.{Suspects}
use Rattle.arc_rows.specs.Views.{in_view, arcs_in, row_of}
use Rattle.round_kernel.specs.Suspects.{AreSuspects, stamp}

-- what holds of the chosen ones holds of each that is chosen
module _ {A : Type 0} (P : A → Type 0) (h : A → Bool) where
  chosen-head : (x : A) (xs : List A) → All P (filter h (x ∷ xs)) → h x ≡ true → P x
  chosen-head x xs each e = All-head P x (filter h xs) (rw e at each)

  chosen-tail : (x : A) (xs : List A) → All P (filter h (x ∷ xs)) → All P (filter h xs)
  chosen-tail x xs each = elim (cases_Bool (h x)) [
    | inl e ↦ All-tail P x (filter h xs) (rw e at each)
    | inr e ↦ rw e at each
  ]

  pub of-chosen : (xs : List A) → All P (filter h xs) → All (λ x. h x ≡ true → P x) xs
  of-chosen [] each = All-nil (λ x. h x ≡ true → P x)
  of-chosen (x ∷ xs) each = All-cons (λ y. h y ≡ true → P y) x xs (λ e. chosen-head x xs each e) (of-chosen xs (chosen-tail x xs each))

-- an arc to the node is in both views or in none, and carries the same
pub record IsSame (h f g : Arc → Bool) (b c : Arc → Val) (a : Arc) : Type 0 where
  pub view : h a ≡ true → f a ≡ g a
  pub carries : h a ≡ true → b a ≡ c a

module _ (h f g : Arc → Bool) (b c : Arc → Val) where
  pub same-list : (xs : List Arc) → All (IsSame h f g b c) xs → map b (filter h (filter f xs)) ≡ map c (filter h (filter g xs))
  same-list [] each = refl
  same-list (a ∷ xs) each =
      let rest = same-list xs (All-tail (IsSame h f g b c) a xs each) in
      let here = All-head (IsSame h f g b c) a xs each in
      elim (cases_Bool (h a)) [
        | inl eh ↦ elim (cases_Bool (f a)) [
          | inl ef ↦ let eg : g a ≡ true = sym (here.view eh) ∙ ef in rw (ef, eg, eh) (ap (λ (x : Val). x ∷ map b (filter h (filter f xs))) (here.carries eh) ∙ ap (λ (ys : List Val). c a ∷ ys) rest)
          | inr ef ↦ let eg : g a ≡ false = sym (here.view eh) ∙ ef in rw (ef, eg) rest
        ]
        | inr eh ↦ elim (cases_Bool (f a)) [
          | inl ef ↦ elim (cases_Bool (g a)) [
            | inl eg ↦ rw (ef, eg, eh) rest
            | inr eg ↦ rw (ef, eg, eh) rest
          ]
          | inr ef ↦ elim (cases_Bool (g a)) [
            | inl eg ↦ rw (ef, eg, eh) rest
            | inr eg ↦ rw (ef, eg) rest
          ]
        ]
      ]

module _ (answer : Answer) (p : Program) (graph : GraphData) (all : List Arc) (first : Bool) (old new : List Bool) (r : ℕ) (suspects : Suspects) (is : AreSuspects answer p graph all first old new r suspects) (arcs : All (IsArc graph) all) (v : ℕ) where
  abbrev to_node : Arc → Bool
  to_node a = a.head.0 == v

  -- in both views
  pub same-views : first ≡ false → All (λ a. to_node a ≡ true → in_view new a ≡ in_view old a) all → (row : List Arc) → row ≡ row_of all v → All (λ a. get_or suspects.apart.items a.tail.0 false ≡ false) row
      → got_values answer p graph (arcs_in all new) v r ≡ got_values answer p graph (arcs_in all old) v r
  same-views one none row e still =
      let now = carried p graph (arcs_in all new) (lone answer p graph (arcs_in all new) r) in
      let before = carried p graph (arcs_in all old) (lone answer p graph (arcs_in all old) r) in
      let each = of-chosen (λ (a : Arc). get_or suspects.apart.items a.tail.0 false ≡ false) to_node all (subst (λ (xs : List Arc). All (λ a. get_or suspects.apart.items a.tail.0 false ≡ false) xs) e still) in
      ap (λ (ms : List Val). filter is_sent ms) (same-list to_node (in_view new) (in_view old) now before all (λ k d low. record {
        view = λ h. none k d low h;
        carries = λ h. is.apart one (get_or all k d).tail.0 (get_or all k d).edge.0 (arcs k d low).tail (each k d low h);
      }))

  -- in two rounds of the new view
  module _ (later : 0 < r) (moved : List ℕ) (s : ℕ) (em : moved ≡ suspects.moved.items) (es : s ≡ stamp r) where
    unmoved : (u : ℕ) → u < length graph.ids → (get_or moved u 0 == s) ≡ false → value_at (lone answer p graph (arcs_in all new) r) u ≡ value_at (lone answer p graph (arcs_in all new) (r - 1)) u
    unmoved u low still = is.moved later u low (λ e. eqb-false (get_or moved u 0) s still (ap (λ (ns : List ℕ). get_or ns u 0) em ∙ e ∙ sym es))

    -- the values of a node
    pub values-same : (u : ℕ) → u < length graph.ids → (get_or moved u 0 == s) ≡ false → (now before : List Val) → now ≡ lone answer p graph (arcs_in all new) r → before ≡ lone answer p graph (arcs_in all new) (r - 1)
        → value_at now u ≡ value_at before u
    values-same u low still now before en eb = ap (λ (vs : List Val). value_at vs u) en ∙ unmoved u low still ∙ ap (λ (vs : List Val). value_at vs u) (sym eb)

    -- its own value
    pub own-same : v < length graph.ids → (get_or moved v 0 == s) ≡ false → (now before : List Val) → now ≡ lone answer p graph (arcs_in all new) r → before ≡ lone answer p graph (arcs_in all new) (r - 1)
        → false ≡ not (same_value (value_at now v) (value_at before v))
    own-same low still now before en eb =
        let one = values-same v low still now before en eb in
        sym (ap not (ap (λ (x : Val). same_value x (value_at before v)) one ∙ values-exact.itself (value_at before v)))

    pub same-rounds : (row : List Arc) → row ≡ row_of all v → All (λ a. (get_or moved a.tail.0 0 == s) ≡ false) row
        → got_values answer p graph (arcs_in all new) v r ≡ got_values answer p graph (arcs_in all new) v (r - 1)
    same-rounds row e still =
        let now = carried p graph (arcs_in all new) (lone answer p graph (arcs_in all new) r) in
        let before = carried p graph (arcs_in all new) (lone answer p graph (arcs_in all new) (r - 1)) in
        let each = of-chosen (λ (a : Arc). (get_or moved a.tail.0 0 == s) ≡ false) to_node all (subst (λ (xs : List Arc). All (λ a. (get_or moved a.tail.0 0 == s) ≡ false) xs) e still) in
        ap (λ (ms : List Val). filter is_sent ms) (same-list to_node (in_view new) (in_view new) now before all (λ k d low. record {
          view = λ h. refl;
          carries = λ h. ap (λ (x : Val). sent_by p graph (get_or all k d).tail.0 x (outdeg (arcs_in all new) (get_or all k d).tail.0) (get_or all k d).edge.0)
              (unmoved (get_or all k d).tail.0 (arcs k d low).tail (each k d low h));
        }))

-- the same messages are one multiset
pub itself : (ms ns : List Val) → ms ≡ ns → false ≡ not (are_one same_value ms ns)
itself ms ns e = sym (ap not (ap (λ (xs : List Val). are_one same_value ms xs) (sym e) ∙ one-tells same_value ms ms (one-refl same_value ms)))

pub or-first : (a b : Bool) → (a || b) ≡ false → a ≡ false
or-first true b e = absurd cc
or-first false b e = refl
