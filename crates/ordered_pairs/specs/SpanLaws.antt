-- Spans of more pairs and of fewer; with a span, the pairs with one first part are a range.
use Rattle.std.proofs.Common.{◌≡◌, ◌∙◌, Bool, false, List, [], ◌∷◌, map, Ordering, refl, ap, sym}
use Rattle.std.specs.Prelude.{◌&&◌, cond, not, filter}
use Rattle.std.specs.BTreeMap.Range.{range_contains}
use Rattle.std.specs.Cmp.{IsTotalOrder}
use Rattle.std.specs.List.{All}
use Rattle.std.specs.Ordering.{is_eq, is_le, is_lt, is_gt, ordering_then, ordering_reverse}
use Rattle.std.specs.declared.cmp.Ordering.TheVariants.{Less, Equal, Greater}
use Rattle.std.specs.declared.ops.Bound.TheVariants.{Included}
use Rattle.std.specs.declared.option.Option.{Option}
use Rattle.std.specs.declared.option.Option.TheVariants.{None, Some}
use Rattle.std.proofs.lemmas.Cmp.{upto}
use Rattle.std.proofs.lemmas.List.Elements.{All-head, All-nil, All-same, All-tail, All-weaker}
use Rattle.ordered_pairs.specs.Spans.{InSpan, IsSpanned}

-- ---- more pairs and fewer

not_less : (o : Ordering) → is_lt o ≡ false → is_gt (ordering_reverse o) ≡ false
not_less Less h = absurd (cc)
not_less Equal h = refl
not_less Greater h = refl

module _ {B : Type 0} (bcmp : B → B → Ordering) (order : IsTotalOrder bcmp) where
  back : (x y : B) → is_lt (bcmp x y) ≡ false → is_gt (bcmp y x) ≡ false
  back x y h = ap is_gt (order.antisymm y x) ∙ not_less (bcmp x y) h

  span_forward : (ends : B × B) (b : B) → InSpan bcmp ends b → is_gt (bcmp ends.0 ends.1) ≡ false
  span_forward ends b h = upto order ends.0 b ends.1 h.0 (back ends.1 b h.1)

  -- a wider span has the old pairs and all whose second part it has
  pub spanned_more : {A : Type 0} (span : Option (B × B)) (ends : B × B) (pairs new : List (A × B)) (b : B) → IsSpanned bcmp span pairs → InSpan bcmp ends b → ((old : B × B) (c : B) → span ≡ Some old → InSpan bcmp old c → InSpan bcmp ends c) → (All (λ (p : A × B). InSpan bcmp ends p.1) pairs → All (λ (p : A × B). InSpan bcmp ends p.1) new) → IsSpanned bcmp (Some ends) new
  spanned_more {A} span ends pairs new b is more wider go = (span_forward ends b more, go (before span is wider)) where
    before : (span : Option (B × B)) → IsSpanned bcmp span pairs → ((old : B × B) (c : B) → span ≡ Some old → InSpan bcmp old c → InSpan bcmp ends c) → All (λ (p : A × B). InSpan bcmp ends p.1) pairs
    before None is wider = All-same (λ (p : A × B). InSpan bcmp ends p.1) pairs [] is (All-nil (λ (p : A × B). InSpan bcmp ends p.1))
    before (Some old) is wider = All-weaker (λ (p : A × B). InSpan bcmp old p.1) (λ (p : A × B). InSpan bcmp ends p.1) (λ p h. wider old p.1 refl h) pairs is.1

nothing_of : {X : Type 0} (xs : List X) → All (λ _. ⊥) xs → xs ≡ []
nothing_of [] h = refl
nothing_of (x ∷ xs) h = absurd (All-head (λ _. ⊥) x xs h)

-- pairs that are among spanned ones are spanned
pub spanned_less : {A B : Type 0} (bcmp : B → B → Ordering) (span : Option (B × B)) (pairs new : List (A × B)) → ((P : A × B → Type 0) → All P pairs → All P new) → IsSpanned bcmp span pairs → IsSpanned bcmp span new
spanned_less bcmp None pairs new go is = nothing_of new (go (λ _. ⊥) (All-same (λ _. ⊥) pairs [] is (All-nil (λ _. ⊥))))
spanned_less {A} {B} bcmp (Some ends) pairs new go is = (is.0, go (λ (p : A × B). InSpan bcmp ends p.1) is.1)

-- ---- the pairs with a first part are a range

is_between : (r s u : Ordering) → is_gt s ≡ false → is_lt u ≡ false → is_le (ordering_then r s) && not (is_lt (ordering_then r u)) ≡ is_eq (ordering_reverse r)
is_between Less s u h k = refl
is_between Greater s u h k = refl
is_between Equal Less Less h k = absurd (cc)
is_between Equal Less Equal h k = refl
is_between Equal Less Greater h k = refl
is_between Equal Equal Less h k = absurd (cc)
is_between Equal Equal Equal h k = refl
is_between Equal Equal Greater h k = refl
is_between Equal Greater u h k = absurd (cc)

module _ {A B : Type 0} (acmp : A → A → Ordering) (bcmp : B → B → Ordering) (order : IsTotalOrder acmp) (a : A) (ends : B × B) where
  -- whether a pair is between the pairs of the first part with both ends
  abbrev pub between : A × B → Bool
  between = range_contains (λ (x y : A × B). ordering_then (acmp x.0 y.0) (bcmp x.1 y.1)) (Included (a, ends.0)) (Included (a, ends.1))

  between_is : (p : A × B) → InSpan bcmp ends p.1 → between p ≡ is_eq (acmp p.0 a)
  between_is p h = is_between (acmp a p.0) (bcmp ends.0 p.1) (bcmp ends.1 p.1) h.0 h.1 ∙ ap is_eq (sym (order.antisymm p.0 a))

  -- of a set of pairs, or of a map from them, with the pair of each item
  pub range_is : {X : Type 0} (pair : X → A × B) (xs : List X) → All (λ (p : A × B). InSpan bcmp ends p.1) (map pair xs) → filter (λ x. between (pair x)) xs ≡ filter (λ x. is_eq (acmp (pair x).0 a)) xs
  range_is pair [] h = refl
  range_is pair (x ∷ xs) h =
      let first : between (pair x) ≡ is_eq (acmp (pair x).0 a) = between_is (pair x) (All-head (λ (p : A × B). InSpan bcmp ends p.1) (pair x) (map pair xs) h) in
      ap (λ b. cond b (x ∷ filter (λ x. between (pair x)) xs) (filter (λ x. between (pair x)) xs)) first ∙ ap (λ v. cond (is_eq (acmp (pair x).0 a)) (x ∷ v) v) (range_is pair xs (All-tail (λ (p : A × B). InSpan bcmp ends p.1) (pair x) (map pair xs) h))
