-- What numbers of four bytes come to, with one more.
use Rattle.std.proofs.Common.{◌≡◌, ◌∙◌, ◌+◌, ◌∷◌, [], ℕ, ℤ, pos, ◌+ℤ◌, ◌-ℤ◌, Bool, false, List, length, append-nil, w32, w64, SFits, ap, sym, refl, subst, arith, inl, inr}
use Rattle.std.specs.Prelude.{if◌then◌else◌}
use Rattle.std.specs.Int.{int_min, int_max}
use Rattle.std.specs.Ordering.{int_eq}
use Rattle.std.proofs.lemmas.Bool.{cases_Bool, false≢true}
use Rattle.std.proofs.lemmas.Bool.Decides.{Decides-int_eq}
use Rattle.std.proofs.lemmas.Int.{ints}
use Rattle.std.proofs.lemmas.List.{length-append}
use Rattle.graph_model.specs.declared.value.Val.{Val}
use Rattle.graph_model.specs.declared.value.Val.TheVariants.{Num}
use Rattle.vertex_lang.specs.Values.{greatest, lowest_number}
use Rattle.message_forms.specs.Codes.{value_in}
use Rattle.message_forms.specs.NumberLaws.{none-is, number-is}
use Rattle.value_codes.specs.declared.short_span.ShortSpan.{ShortSpan}
use Rattle.value_codes.specs.ShortCodes.{lowest_short, widened}
use Rattle.value_codes.specs.ShortSpans.{above, greatest_short, spanned, IsShortSpan}
use Rattle.value_codes.specs.Spans.{IsSpan, with_message}
use Rattle.value_codes.proofs.Spanning.{span-more, span-still}

-- a number that doesn't stand for none
not-equal : (x y : ℤ) → (x ≡ y → ⊥) → int_eq x y ≡ false
not-equal x y other = elim (cases_Bool (int_eq x y)) [ inl t ↦ absurd (other ((Decides-int_eq x y).0 t)) | inr f ↦ f ]

pub widened-some : (z : ℤ) → (z ≡ lowest_short → ⊥) → widened z ≡ z
widened-some z other = ap (λ (b : Bool). if b then lowest_number else z) (not-equal z lowest_short other)

pub widened-none : (z : ℤ) → z ≡ lowest_short → widened z ≡ lowest_number
widened-none z none = ap (λ (b : Bool). if b then lowest_number else z) ((Decides-int_eq z lowest_short).1 none)

above-some : (z : ℤ) → (z ≡ greatest_short → ⊥) → above z ≡ z +ℤ pos 1
above-some z other = ap (λ (b : Bool). if b then greatest else z +ℤ pos 1) (not-equal z greatest_short other)

above-none : (z : ℤ) → z ≡ greatest_short → above z ≡ greatest
above-none z none = ap (λ (b : Bool). if b then greatest else z +ℤ pos 1) ((Decides-int_eq z greatest_short).1 none)

wide : (z : ℤ) → SFits w32 z → SFits w64 z
wide z fits = grind (arith, ints)

not-the-lowest : (z : ℤ) → SFits w32 z → z ≡ lowest_number → ⊥
not-the-lowest z fits e = omega (arith, ints, e, fits.sfits)

-- the least: one below a number that doesn't stand for none is less than what is kept of no message
below-all : (z : ℤ) → SFits w32 z → z -ℤ pos 1 ≡ greatest_short → ⊥
below-all z fits e = omega (arith, ints, e, fits.sfits)

pub least-more : (l z : ℤ) → SFits w32 l → SFits w32 z → (z ≡ lowest_short → ⊥) → above (int_min l (z -ℤ pos 1)) ≡ int_min (above l) z
least-more l z fits more other = elim (cases_Bool (int_eq l greatest_short)) [
  | inl t ↦
      let empty : l ≡ greatest_short = (Decides-int_eq l greatest_short).0 t in
      let first : int_min l (z -ℤ pos 1) ≡ z -ℤ pos 1 = grind (arith, ints) in
      let one : z -ℤ pos 1 +ℤ pos 1 ≡ z = omega (arith, ints) in
      let low : int_min greatest z ≡ z = grind (arith, ints) in
      ap above first ∙ above-some (z -ℤ pos 1) (below-all z more) ∙ one ∙ sym (ap (λ (x : ℤ). int_min x z) (above-none l empty) ∙ low)
  | inr f ↦
      let some : l ≡ greatest_short → ⊥ = λ e. false≢true (sym f ∙ (Decides-int_eq l greatest_short).1 e) in
      let still : int_min l (z -ℤ pos 1) ≡ greatest_short → ⊥ = λ e. grind (arith, ints) in
      let one : int_min l (z -ℤ pos 1) +ℤ pos 1 ≡ int_min (l +ℤ pos 1) z = grind (arith, ints) in
      above-some (int_min l (z -ℤ pos 1)) still ∙ one ∙ ap (λ (x : ℤ). int_min x z) (sym (above-some l some))
]

-- the greatest
pub greatest-more : (g z : ℤ) → SFits w32 g → SFits w32 z → (z ≡ lowest_short → ⊥) → widened (int_max g z) ≡ int_max (widened g) z
greatest-more g z fits more other = elim (cases_Bool (int_eq g lowest_short)) [
  | inl t ↦
      let none : g ≡ lowest_short = (Decides-int_eq g lowest_short).0 t in
      let first : int_max g z ≡ z = grind (arith, ints) in
      let high : int_max lowest_number z ≡ z = grind (arith, ints) in
      ap widened first ∙ widened-some z other ∙ sym (ap (λ (x : ℤ). int_max x z) (widened-none g none) ∙ high)
  | inr f ↦
      let some : g ≡ lowest_short → ⊥ = λ e. false≢true (sym f ∙ (Decides-int_eq g lowest_short).1 e) in
      let still : int_max g z ≡ lowest_short → ⊥ = λ e. grind (arith, ints) in
      widened-some (int_max g z) still ∙ ap (λ (x : ℤ). int_max x z) (sym (widened-some g some))
]

-- the number that stands for none changes neither
pub least-stays : (x : ℤ) → SFits w32 x → int_min x greatest_short ≡ x
least-stays x fits = grind (arith, ints)

pub greatest-stays : (x : ℤ) → SFits w32 x → int_max x lowest_short ≡ x
greatest-stays x fits = grind (arith, ints)

-- one number more
pub short-more : (short more : ShortSpan) (numbers : ℕ) (ms : List Val) (z : ℤ) → SFits w32 short.least → SFits w32 short.greatest → SFits w32 z
    → (z ≡ lowest_short → ⊥)
    → more.least ≡ int_min short.least (z -ℤ pos 1) → more.greatest ≡ int_max short.greatest z → more.total ≡ short.total +ℤ z → more.nones ≡ short.nones
    → IsShortSpan short numbers ms → IsShortSpan more (numbers + 1) (with_message ms (value_in (widened z)))
short-more short more numbers ms z least_fits greatest_fits fits other least_is greatest_is total_is nones_is h =
    let some : z ≡ lowest_number → ⊥ = not-the-lowest z fits in
    let same : value_in (widened z) ≡ value_in z = ap value_in (widened-some z other) in
    let longer : length (with_message ms (value_in z)) ≡ length ms + 1 = ap (λ (m : Val). length (with_message ms m)) (number-is z some) ∙ length-append ms (Num z ∷ []) in
    let spans : IsSpan (spanned more (length ms + 1)) (with_message ms (value_in z)) = span-more (spanned short (length ms)) (spanned more (length ms + 1)) ms z (wide z fits) some
    (ap above least_is ∙ least-more short.least z least_fits fits other)
    (ap widened greatest_is ∙ greatest-more short.greatest z greatest_fits fits other)
    (omega (arith, ints, total_is, nones_is))
    refl
    h.span in
    subst (λ (m : Val). IsShortSpan more (numbers + 1) (with_message ms m)) (sym same) (record {
      span = subst (λ (n : ℕ). IsSpan (spanned more n) (with_message ms (value_in z))) (sym longer) spans;
      size = omega (arith, longer, nones_is, h.size);
      low = omega (arith, ints, total_is, h.low, fits.sfits);
      high = omega (arith, ints, total_is, h.high, fits.sfits);
    })

-- one more that stands for none
pub short-still : (short more : ShortSpan) (numbers : ℕ) (ms : List Val) (z : ℤ) → z ≡ lowest_short
    → more.least ≡ short.least → more.greatest ≡ short.greatest → more.total ≡ short.total +ℤ z → more.nones ≡ short.nones + 1
    → IsShortSpan short numbers ms → IsShortSpan more (numbers + 1) (with_message ms (value_in (widened z)))
short-still short more numbers ms z none least_is greatest_is total_is nones_is h =
    let lowest_is : widened z ≡ lowest_number = widened-none z none in
    let spans : IsSpan (spanned more (length ms)) (with_message ms (value_in (widened z))) =
    span-still (spanned short (length ms)) (spanned more (length ms)) ms (widened z) lowest_is (ap above least_is) (ap widened greatest_is)
    (omega (arith, ints, total_is, nones_is, none)) refl h.span in
    let as_long : length (with_message ms (value_in (widened z))) ≡ length ms =
    ap (λ (m : Val). length (with_message ms m)) (none-is (widened z) lowest_is) ∙ ap (λ (xs : List Val). length xs) (append-nil ms) in
    record {
      span = subst (λ (n : ℕ). IsSpan (spanned more n) (with_message ms (value_in (widened z)))) (sym as_long) spans;
      size = omega (arith, as_long, nones_is, h.size);
      low = omega (arith, ints, total_is, h.low, none);
      high = omega (arith, ints, total_is, h.high, none);
    }
