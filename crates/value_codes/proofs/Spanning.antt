-- What messages come to, with one more and at the end.
use Rattle.std.proofs.Common.{◌≡◌, ◌∙◌, ◌+◌, ◌∷◌, [], ℕ, ℤ, pos, ◌+ℤ◌, Bool, List, fold, append-nil, w64, SFits, ap, sym, refl, subst, arith, inl, inr}
use Rattle.std.specs.Prelude.{◌⊎◌, ◌==◌, int_lt, if◌then◌else◌}
use Rattle.std.specs.Int.{int_min, int_max}
use Rattle.std.specs.Ordering.{int_eq}
use Rattle.std.proofs.lemmas.Bool.Decides.{Decides-int_eq}
use Rattle.std.proofs.lemmas.Bool.{cases_eq, cases_Bool, eq-eqb, ne_eqb, false≢true}
use Rattle.std.proofs.lemmas.Int.{ints}
use Rattle.std.proofs.lemmas.List.{length-append}
use Rattle.std.proofs.lemmas.List.Sums.{fold-append}
use Rattle.graph_model.specs.declared.value.Val.{Val}
use Rattle.graph_model.specs.declared.value.Val.TheVariants.{Nil, Num}
use Rattle.vertex_lang.specs.Arcs.{amount}
use Rattle.vertex_lang.specs.Values.{lesser, greater, greatest, lowest_number}
use Rattle.value_codes.specs.declared.span.Span.{Span}
use Rattle.message_forms.specs.Codes.{value_in}
use Rattle.value_codes.specs.Spans.{IsSpan, with_message}
use Rattle.message_forms.specs.NumberLaws.{none-is, number-is}

-- ---- one message more

-- the least with one more
below-greatest : (z : ℤ) → SFits w64 z → int_min greatest z ≡ z
below-greatest z fits = grind (arith, ints)

lower : (least z : ℤ) (count : ℕ) → SFits w64 z → (count ≡ 0 → least ≡ greatest) → lesser (if count == 0 then Nil else Num least) (Num z) ≡ Num (int_min least z)
lower least z count fits start = elim (cases_eq count 0) [
  | inl none ↦
      ap (λ (b : Bool). lesser (if b then Nil else Num least) (Num z)) (eq-eqb count 0 none)
      ∙ ap (λ (x : ℤ). Num x) (sym (ap (λ (x : ℤ). int_min x z) (start none) ∙ below-greatest z fits))
  | inr some ↦ ap (λ (b : Bool). lesser (if b then Nil else Num least) (Num z)) (ne_eqb count 0 some)
]

-- the greatest with one more
above-lowest : (z : ℤ) → SFits w64 z → int_max lowest_number z ≡ z
above-lowest z fits = grind (arith, ints)

one-of-both : (x y : ℤ) → (int_max x y ≡ x) ⊎ (int_max x y ≡ y)
one-of-both x y = elim (cases_Bool (int_lt y x)) [
  | inl t ↦ inl (ap (λ (b : Bool). if b then x else y) t)
  | inr f ↦ inr (ap (λ (b : Bool). if b then x else y) f)
]

not-lowest : (x y : ℤ) → (x ≡ lowest_number → ⊥) → (y ≡ lowest_number → ⊥) → int_max x y ≡ lowest_number → ⊥
not-lowest x y f g e = elim (one-of-both x y) [ inl h ↦ f (sym h ∙ e) | inr h ↦ g (sym h ∙ e) ]

higher : (high z : ℤ) → SFits w64 z → (z ≡ lowest_number → ⊥) → greater (value_in high) (Num z) ≡ value_in (int_max high z)
higher high z fits other = elim (cases_Bool (int_eq high lowest_number)) [
  | inl t ↦
      let none : high ≡ lowest_number = (Decides-int_eq high lowest_number).0 t in
      ap (λ (x : Val). greater x (Num z)) (none-is high none) ∙ sym (ap value_in (ap (λ (x : ℤ). int_max x z) none ∙ above-lowest z fits) ∙ number-is z other)
  | inr f ↦
      let some : high ≡ lowest_number → ⊥ = λ e. false≢true (sym f ∙ (Decides-int_eq high lowest_number).1 e) in
      ap (λ (x : Val). greater x (Num z)) (number-is high some) ∙ sym (number-is (int_max high z) (not-lowest high z some other))
]

pub span-more : (span more : Span) (ms : List Val) (z : ℤ) → SFits w64 z → (z ≡ lowest_number → ⊥)
    → more.least ≡ int_min span.least z → more.greatest ≡ int_max span.greatest z → more.total ≡ span.total +ℤ z → more.count ≡ span.count + 1
    → IsSpan span ms → IsSpan more (with_message ms (value_in z))
span-more span more ms z fits other least_is greatest_is total_is count_is h =
    let with_one : IsSpan more (with_message ms (Num z)) = record {
      low = fold-append lesser Nil ms (Num z ∷ []) ∙ ap (λ (x : Val). lesser x (Num z)) h.low ∙ lower span.least z span.count fits h.start
          ∙ sym (ap (λ (b : Bool). if b then Nil else Num more.least) (ne_eqb more.count 0 (omega arith)) ∙ ap (λ (x : ℤ). Num x) least_is);
      high = fold-append greater Nil ms (Num z ∷ []) ∙ ap (λ (x : Val). greater x (Num z)) h.high ∙ higher span.greatest z fits other ∙ ap value_in (sym greatest_is);
      sum = total_is ∙ ap (λ (x : ℤ). x +ℤ z) h.sum ∙ sym (fold-append (λ (sum : ℤ) (x : Val). sum +ℤ amount x) (pos 0) ms (Num z ∷ []));
      size = count_is ∙ ap (λ (n : ℕ). n + 1) h.size ∙ sym (length-append ms (Num z ∷ []));
      start = λ none. absurd (omega arith);
    } in
    subst (λ (m : Val). IsSpan more (with_message ms m)) (sym (number-is z other)) with_one

-- the same numbers come of the same messages
pub span-same : (span same : Span) (ms : List Val) → same.least ≡ span.least → same.greatest ≡ span.greatest → same.total ≡ span.total → same.count ≡ span.count → IsSpan span ms → IsSpan same ms
span-same span same ms least_is greatest_is total_is count_is h = record {
  low = h.low ∙ ap (λ (n : ℕ). if n == 0 then Nil else Num span.least) (sym count_is) ∙ ap (λ (x : ℤ). if same.count == 0 then Nil else Num x) (sym least_is);
  high = h.high ∙ ap value_in (sym greatest_is);
  sum = total_is ∙ h.sum;
  size = count_is ∙ h.size;
  start = λ empty. least_is ∙ h.start (sym count_is ∙ empty);
}

-- none isn't sent
pub span-still : (span more : Span) (ms : List Val) (z : ℤ) → z ≡ lowest_number
    → more.least ≡ span.least → more.greatest ≡ span.greatest → more.total ≡ span.total → more.count ≡ span.count
    → IsSpan span ms → IsSpan more (with_message ms (value_in z))
span-still span more ms z none least_is greatest_is total_is count_is h =
    let same : with_message ms Nil ≡ ms = append-nil ms in
    subst (λ (m : Val). IsSpan more (with_message ms m)) (sym (none-is z none)) (subst (λ (xs : List Val). IsSpan more xs) (sym same) (span-same span more ms least_is greatest_is total_is count_is h))

-- the least and the greatest of numbers in range
pub least-stays : (x : ℤ) → SFits w64 x → int_min x greatest ≡ x
least-stays x fits = grind (arith, ints)

pub greatest-stays : (x : ℤ) → SFits w64 x → int_max x lowest_number ≡ x
greatest-stays x fits = grind (arith, ints)

-- ---- at the end

pub no-extreme : (ms : List Val) → fold (λ (extreme : Val) (m : Val). extreme) Nil ms ≡ Nil
no-extreme [] = refl
no-extreme (m ∷ ms) = no-extreme ms
