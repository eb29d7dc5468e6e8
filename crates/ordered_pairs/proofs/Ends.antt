-- The lesser and the greater of a part and one more.
use Rattle.std.proofs.Common.{◌≡◌, ◌∙◌, Bool, true, false, Option, Some, Ordering, refl, ap, sym, subst, inl, inr}
use Rattle.std.specs.Prelude.{◌⊎◌, cond}
use Rattle.std.specs.Cmp.{IsTotalOrder}
use Rattle.std.specs.Ordering.{is_gt, is_lt, ord_max, ord_min, ordering_reverse}
use Rattle.std.specs.declared.cmp.Ordering.TheVariants.{Less, Equal, Greater}
use Rattle.std.proofs.lemmas.Cmp.{upto}
use Rattle.ordered_pairs.specs.Spans.{InSpan}

not_greater : (o : Ordering) → is_lt o ≡ true → is_gt o ≡ false
not_greater Less h = refl
not_greater Equal h = refl
not_greater Greater h = absurd (cc)

turned_greater : (o : Ordering) → is_lt o ≡ false → is_gt (ordering_reverse o) ≡ false
turned_greater Less h = absurd (cc)
turned_greater Equal h = refl
turned_greater Greater h = refl

turned_less : (o : Ordering) → is_gt o ≡ false → is_lt (ordering_reverse o) ≡ false
turned_less Less h = refl
turned_less Equal h = refl
turned_less Greater h = absurd (cc)

same_pair : {B : Type 0} (x y : B × B) → Some x ≡ Some y → x ≡ y
same_pair x y h = cc

module _ {B : Type 0} (cmp : B → B → Ordering) (span : Option (B × B)) (old : B × B) (more : B) (is : span ≡ Some old) where
  low_by : (b : Bool) (end : B) → end ≡ cond b more old.0 → (end ≡ more) ⊎ ((ends : B × B) × (span ≡ Some ends) × (end ≡ ends.0))
  low_by true end e = inl e
  low_by false end e = inr (old, is, e)

  -- the lesser is one of both
  pub low_end : (end : B) → end ≡ ord_min cmp old.0 more → (end ≡ more) ⊎ ((ends : B × B) × (span ≡ Some ends) × (end ≡ ends.0))
  low_end end e = low_by (is_lt (cmp more old.0)) end e

  high_by : (b : Bool) (end : B) → end ≡ cond b old.1 more → (end ≡ more) ⊎ ((ends : B × B) × (span ≡ Some ends) × (end ≡ ends.1))
  high_by true end e = inr (old, is, e)
  high_by false end e = inl e

  -- and so is the greater
  pub high_end : (end : B) → end ≡ ord_max cmp old.1 more → (end ≡ more) ⊎ ((ends : B × B) × (span ≡ Some ends) × (end ≡ ends.1))
  high_end end e = high_by (is_lt (cmp more old.1)) end e

  module _ (order : IsTotalOrder cmp) where
    low_stays : (b : B) (c : Bool) → is_lt (cmp more old.0) ≡ c → is_gt (cmp old.0 b) ≡ false → is_gt (cmp (cond c more old.0) b) ≡ false
    low_stays b true e h = upto order more old.0 b (not_greater (cmp more old.0) e) h
    low_stays b false e h = h

    back : (x y : B) → is_lt (cmp x y) ≡ false → is_gt (cmp y x) ≡ false
    back x y h = ap is_gt (order.antisymm y x) ∙ turned_greater (cmp x y) h

    high_stays : (b : B) (c : Bool) → is_lt (cmp more old.1) ≡ c → is_lt (cmp old.1 b) ≡ false → is_lt (cmp (cond c old.1 more) b) ≡ false
    high_stays b true e h = h
    high_stays b false e h = ap is_lt (order.antisymm more b) ∙ turned_less (cmp b more) (upto order b old.1 more (back old.1 b h) (back more old.1 e))

    -- what was between the old ends is between these
    pub span_stays : (first last : B) → first ≡ ord_min cmp old.0 more → last ≡ ord_max cmp old.1 more → (ends : B × B) (b : B) → span ≡ Some ends → InSpan cmp ends b → (is_gt (cmp first b) ≡ false) × (is_lt (cmp last b) ≡ false)
    span_stays first last e f ends b q h =
        let in_old : InSpan cmp old b = subst (λ v. InSpan cmp v b) (same_pair ends old (sym q ∙ is)) h in (
          subst (λ v. is_gt (cmp v b) ≡ false) (sym e) (low_stays b (is_lt (cmp more old.0)) refl in_old.0),
          subst (λ v. is_lt (cmp v b) ≡ false) (sym f) (high_stays b (is_lt (cmp more old.1)) refl in_old.1),
        )
