-- Values as numbers, one after the other.
use Rattle.std.proofs.Common.{◌≡◌, ◌∙◌, ◌<◌, ◌+◌, ◌++◌, ◌∷◌, [], sym, ap, subst, ℕ, ℤ, pos, List, length, take, arith, inl, inr}
use Rattle.std.proofs.lemmas.Bool.{cases_eq}
use Rattle.std.proofs.lemmas.List.{get_or_append_left, get_or_push, length_push, take_more}
use Rattle.graph_model.specs.declared.value.Val.{Val}
use Rattle.graph_model.specs.declared.value.Val.TheVariants.{Nil}
use Rattle.vertex_lang.specs.Rounds.{value_at}
use Rattle.message_forms.specs.Codes.{value_in}
use Rattle.value_codes.specs.Numbers.{AreNumbers}

number-pushed : (xs : List Val) (v : Val) (numbers : List ℤ) (z : ℤ) → value_in z ≡ v → AreNumbers xs numbers → AreNumbers (xs ++ v ∷ []) (numbers ++ z ∷ [])
number-pushed xs v numbers z e h = record {
  size = length_push numbers z ∙ ap (λ (n : ℕ). n + 1) h.size ∙ sym (length_push xs v);
  each = λ u low. elim (cases_eq u (length xs)) [
    | inl same ↦ ap value_in (get_or_push numbers z (pos 0) u (h.size ∙ sym same)) ∙ e ∙ sym (get_or_push xs v Nil u (sym same))
    | inr other ↦
        let before : u < length xs = omega (arith, length_push xs v) in
        ap value_in (get_or_append_left numbers (z ∷ []) (pos 0) u (omega (arith, h.size))) ∙ h.each u before ∙ sym (get_or_append_left xs (v ∷ []) Nil u before)
  ];
}

pub one-number : (values : List Val) (i : ℕ) (numbers more : List ℤ) (z : ℤ) → i < length values → value_in z ≡ value_at values i → more ≡ numbers ++ z ∷ []
    → AreNumbers (take i values) numbers → AreNumbers (take (i + 1) values) more
one-number values i numbers more z low e em h =
    subst (λ (xs : List Val). AreNumbers xs more) (sym (take_more values i Nil low))
    (subst (λ (zs : List ℤ). AreNumbers (take i values ++ value_at values i ∷ []) zs) (sym em) (number-pushed (take i values) (value_at values i) numbers z e h))
