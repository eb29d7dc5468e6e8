-- Values that are told apart, and messages that two rounds have in common.
use Rattle.std.proofs.Common.{◌≡◌, ◌≢◌, ◌∙◌, ◌+◌, ◌++◌, ◌∷◌, [], sym, ap, subst, ℕ, Bool, true, false, List, length, get_or, filter, arith, inl, inr}
use Rattle.std.specs.Prelude.{not, fold, if◌then◌else◌}
use Rattle.std.proofs.lemmas.Bool.{cases_Bool}
use Rattle.std.specs.Cmp.{both_ways}
use Rattle.graph_model.specs.declared.value.Val.{Val}
use Rattle.graph_model.specs.GraphData.{GraphData}
use Rattle.vertex_lang.specs.declared.arc.Arc.{Arc}
use Rattle.vertex_lang.specs.declared.program.Program.{Program}
use Rattle.vertex_lang.specs.Arcs.{is_sent}
use Rattle.vertex_lang.specs.Lone.{same_value}
use Rattle.multisets.specs.Multisets.{IsExact, often, AreOne, are_one}
use Rattle.multisets.specs.CountLaws.{often-append, one-told, one-tells}
use Rattle.vertex_lang.specs.GatherLaws.{values-exact, length-one, gathered-one}
use Rattle.graph_model.specs.declared.value.Val.TheVariants.{Nil}
use Rattle.vertex_lang.specs.Values.{lesser}
use Rattle.vertex_lang.specs.Expressions.{sent_by}
use Rattle.vertex_lang.specs.Rounds.{value_at}
use Rattle.multisets.specs.OrderLaws.{permuted-one, one-permuted}
use Rattle.arc_rows.specs.Views.{in_view}
use Rattle.round_messages.specs.Sides.{brings}
use Rattle.round_inputs.specs.Inputs.{AreLeft}
use Rattle.vertex_lang.specs.declared.program.Gather.TheVariants as gather

-- where the edge is in both views or in neither, and the tail sends the same along it, an arc brings the same
pub brings-same : (p : Program) (graph : GraphData) (edges others : List Bool) (degrees counts : List ℕ) (values vs : List Val) (a : Arc)
    → in_view edges a ≡ in_view others a
    → sent_by p graph a.tail.0 (value_at values a.tail.0) (get_or degrees a.tail.0 0) a.edge.0 ≡ sent_by p graph a.tail.0 (value_at vs a.tail.0) (get_or counts a.tail.0 0) a.edge.0
    → brings p graph edges degrees values a ≡ brings p graph others counts vs a
brings-same p graph edges others degrees counts values vs a ee es =
    ap (λ (b : Bool). if b then sent_by p graph a.tail.0 (value_at values a.tail.0) (get_or degrees a.tail.0 0) a.edge.0 else Nil) ee
    ∙ ap (λ (m : Val). if in_view others a then m else Nil) es

-- ---- lists that are seen to be different multisets

apart : (xs ys : List Val) → (AreOne same_value xs ys → ⊥) → are_one same_value xs ys ≡ false
apart xs ys h = elim (cases_Bool (are_one same_value xs ys)) [
  | inl e ↦ absurd (h (one-told same_value values-exact xs ys e))
  | inr e ↦ e
]

pub apart-long : (xs ys : List Val) → length xs ≢ length ys → are_one same_value xs ys ≡ false
apart-long xs ys h = apart xs ys (λ s. h (length-one xs ys s))

pub apart-least : (xs ys : List Val) (x y : Val) (b : Bool) → x ≡ fold lesser Nil xs → y ≡ fold lesser Nil ys → b ≡ not (same_value x y) → b ≡ true → are_one same_value xs ys ≡ false
apart-least xs ys x y b ex ey told e = apart xs ys (λ s.
    let same : x ≡ y = ex ∙ gathered-one gather.Min xs ys s ∙ sym ey in
    false-true (not (same_value x y)) (ap not (ap (λ (v : Val). same_value x v) (sym same) ∙ values-exact.itself x)) (sym told ∙ e)) where
      false-true : (t : Bool) → t ≡ false → t ≡ true → ⊥
      false-true true f g = absurd cc
      false-true false f g = absurd cc

-- ---- lists that lose the same messages

sent : Val → List Val
sent m = filter is_sent (m ∷ [])

pub left-other : (first second all more f s : List Val) (x y : Val) → f ≡ first ++ filter is_sent (x ∷ []) → s ≡ second ++ filter is_sent (y ∷ []) → AreLeft first second all more → AreLeft f s (all ++ filter is_sent (x ∷ [])) (more ++ filter is_sent (y ∷ []))
unfolding sent
left-other first second all more f s x y ef es l = record {
  counts = λ z. omega (
    arith,
    ap (λ (w : List Val). often same_value z w) ef,
    ap (λ (w : List Val). often same_value z w) es,
    l.counts z,
    often-append same_value z first (sent x),
    often-append same_value z second (sent y),
    often-append same_value z all (sent x),
    often-append same_value z more (sent y),
  );
}

pub left-same : (first second all more f s : List Val) (x y : Val) → f ≡ first → s ≡ second → x ≡ y → AreLeft first second all more → AreLeft f s (all ++ filter is_sent (x ∷ [])) (more ++ filter is_sent (y ∷ []))
unfolding sent
left-same first second all more f s x y ef es e l = record {
  counts = λ z. omega (
    arith,
    ap (λ (w : List Val). often same_value z w) ef,
    ap (λ (w : List Val). often same_value z w) es,
    l.counts z,
    ap (λ (w : Val). often same_value z (sent w)) e,
    often-append same_value z all (sent x),
    often-append same_value z more (sent y),
  );
}

-- what is left is one multiset exactly where all is, by a test that says the same of two values
module _ {eq : Val → Val → Bool} (matches : (x y : Val) → eq x y ≡ same_value x y) where
  exact : IsExact eq
  exact = record {
    itself = λ x. matches x x ∙ values-exact.itself x;
    one = λ x y e. values-exact.one x y (sym (matches x y) ∙ e);
  }

  pub left-told : (first second all more : List Val) (b : Bool) → AreLeft first second all more → b ≡ are_one eq first second → b ≡ are_one same_value all more
  left-told first second all more b l d = d ∙ both_ways (are_one eq first second) (are_one same_value all more)
      (λ h. one-tells same_value all more (record { counts = λ z. omega (arith, l.counts z, (permuted-one same_value first second (one-permuted eq exact first second (one-told eq exact first second h))).counts z) }))
      (λ h. one-tells eq first second (permuted-one eq first second (one-permuted same_value values-exact first second (record { counts = λ z. omega (arith, l.counts z, (one-told same_value values-exact all more h).counts z) }))))

  pub left-told-at : (f s first second all more : List Val) (b : Bool) → first ≡ f → second ≡ s → AreLeft f s all more → b ≡ are_one eq first second → b ≡ are_one same_value all more
  left-told-at f s first second all more b ef es l d = left-told first second all more b (subst (λ (xs : List Val). AreLeft xs second all more) (sym ef) (subst (λ (xs : List Val). AreLeft f xs all more) (sym es) l)) d
