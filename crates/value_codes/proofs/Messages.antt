-- Messages that are made from the value alone, one of a node that changes after the other.
use Rattle.std.proofs.Common.{◌≡◌, ◌∙◌, ◌<◌, refl, sym, ap, ℕ, ℤ, pos, List, length, set, arith, inl, inr, length-set}
use Rattle.std.specs.Prelude.{Option}
use Rattle.std.proofs.lemmas.Bool.{cases_eq}
use Rattle.std.proofs.lemmas.Grind.{get_or-set_at}
use Rattle.std.proofs.lemmas.List.{get_or-set_other}
use Rattle.graph_model.specs.declared.value.Val.{Val}
use Rattle.graph_model.specs.declared.value.Val.TheVariants.{Nil}
use Rattle.message_forms.specs.Codes.{value_in, number_at}
use Rattle.message_forms.specs.Forms.{message_with}
use Rattle.value_codes.specs.Numbers.{AreMessages, IsPut}

-- a number in the place of another
pub set-put : (numbers : List ℤ) (n : ℕ) (z : ℤ) (m : Val) → n < length numbers → value_in z ≡ m → IsPut n m numbers (set numbers n z)
set-put numbers n z m low e = record {
  size = length-set numbers n z;
  here = ap value_in (get_or-set_at numbers n n z (pos 0) refl low) ∙ e;
  others = λ u other. ap value_in (get_or-set_other numbers n u z (pos 0) other);
}

-- the one of a node that gets another value
pub one-message : (more : Option ℤ) (values : List Val) (numbers after : List ℤ) (n : ℕ) (w : Val) → n < length values → IsPut n (message_with more w) numbers after → AreMessages more values numbers
    → AreMessages more (set values n w) after
one-message more values numbers after n w low put h = record {
  size = put.size ∙ h.size ∙ sym (length-set values n w);
  each = λ u within. elim (cases_eq u n) [
    | inl same ↦ ap (λ k. number_at after k) same ∙ put.here ∙ ap (message_with more) (sym (get_or-set_at values n u w Nil same low))
    | inr other ↦ put.others u other ∙ h.each u (omega (arith, within, length-set values n w)) ∙ ap (message_with more) (sym (get_or-set_other values n u w Nil other))
  ];
}
