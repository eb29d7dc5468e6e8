-- Views that are distinct, in another order and behind one another.
use Rattle.std.proofs.Common.{◌≡◌, ◌≢◌, ◌∙◌, ◌+◌, ◌<◌, ◌≤◌, ◌==◌, ℕ, zero, suc, Bool, true, false, List, [], ◌∷◌, ◌++◌, length, map, All, Some, slice_get, refl, sym, ap, subst, arith}
use Rattle.std.specs.List.{range_with_len, IsDistinct, AllByRecursion}
use Rattle.std.specs.List.Sorted.{IsPermutation}
use Rattle.std.proofs.lemmas.Bool.{ne_eqb, eqb-false}
use Rattle.std.proofs.lemmas.Bool.Decides.{nat_tests}
use Rattle.std.proofs.lemmas.Map.Keys.{IsDistinct-IsPermutation}
use Rattle.graph_model.specs.declared.number.ViewNo.{ViewNo}
use Rattle.graph_model.specs.GraphData.{AreDistinct}
use Rattle.view_order.specs.Places.{view}

abbrev same : ViewNo → ViewNo → Bool
same u v = u.0 == v.0

turned : (u v : ViewNo) → same u v ≡ same v u
turned u v = grind (arith, nat_tests)

others : (x : ViewNo) (xs : List ViewNo) → ((j : ℕ) (y : ViewNo) → slice_get xs j ≡ Some y → x.0 ≢ y.0) → AllByRecursion (λ y. same x y ≡ false) xs
others x [] h = tt
others x (y ∷ ys) h = (ne_eqb x.0 y.0 (h 0 y refl), others x ys (λ j z at. h (suc j) z at))

one_view : (x y : ViewNo) → x.0 ≡ y.0 → x ≡ y
one_view x y e = ap view e

to_distinct : (xs : List ViewNo) → AreDistinct xs → IsDistinct same xs
unfolding IsDistinct
to_distinct [] d = tt
to_distinct (x ∷ xs) d = (
  others x xs (λ j y at e. absurd (let no : 0 ≡ suc j = d 0 (suc j) x refl (at ∙ ap Some (sym (one_view x y e))) in omega (arith, no))),
  to_distinct xs (λ i j y a b. let e : suc i ≡ suc j = d (suc i) (suc j) y a b in omega (arith, e)),
)

at_all : (P : ViewNo → Type 0) (ys : List ViewNo) (j : ℕ) (x : ViewNo) → AllByRecursion P ys → slice_get ys j ≡ Some x → P x
at_all P [] j x all at = absurd cc
at_all P (y ∷ ys) zero x all at = let e : y ≡ x = cc in subst P e all.0
at_all P (y ∷ ys) (suc j) x all at = at_all P ys j x all.1 at

from_distinct : (ys : List ViewNo) → IsDistinct same ys → AreDistinct ys
unfolding IsDistinct
from_distinct [] d i j x a b = absurd cc
from_distinct (y ∷ ys) d zero zero x a b = refl
from_distinct (y ∷ ys) d zero (suc j) x a b = absurd (let e : y ≡ x = cc in eqb-false y.0 x.0 (at_all (λ z. same y z ≡ false) ys j x d.0 b) (ap (λ (v : ViewNo). v.0) e))
from_distinct (y ∷ ys) d (suc i) zero x a b = absurd (let e : y ≡ x = cc in eqb-false y.0 x.0 (at_all (λ z. same y z ≡ false) ys i x d.0 a) (ap (λ (v : ViewNo). v.0) e))
from_distinct (y ∷ ys) d (suc i) (suc j) x a b = ap suc (from_distinct ys d.1 i j x a b)

pub distinct_permuted : (xs ys : List ViewNo) → IsPermutation xs ys → AreDistinct xs → AreDistinct ys
distinct_permuted xs ys p d = from_distinct ys (IsDistinct-IsPermutation same turned xs ys p (to_distinct xs d))

both : (P : ViewNo → Type 0) (xs ys : List ViewNo) → AllByRecursion P xs → AllByRecursion P ys → AllByRecursion P (xs ++ ys)
both P [] ys a b = b
both P (x ∷ xs) ys a b = (a.0, both P xs ys a.1 b)

module _ (first : ℕ) where
  apart : (x : ViewNo) (ys : List ViewNo) → x.0 < first → All (λ (v : ViewNo). first ≤ v.0) ys → AllByRecursion (λ y. same x y ≡ false) ys
  apart x [] lt all = tt
  apart x (y ∷ ys) lt all =
      let le : first ≤ y.0 = all 0 y (omega arith) in
      (ne_eqb x.0 y.0 (λ e. absurd (omega (arith, e, lt, le))), apart x ys lt (λ i d less. all (suc i) d (omega (arith, less))))

  joined : (xs ys : List ViewNo) → IsDistinct same xs → IsDistinct same ys → All (λ (v : ViewNo). v.0 < first) xs → All (λ (v : ViewNo). first ≤ v.0) ys → IsDistinct same (xs ++ ys)
  unfolding IsDistinct
  joined [] ys dx dy low high = dy
  joined (x ∷ xs) ys dx dy low high =
      (both (λ y. same x y ≡ false) xs ys dx.0 (apart x ys (low 0 x (omega arith)) high), joined xs ys dx.1 dy (λ i d less. low (suc i) d (omega (arith, less))) high)

  pub distinct_joined : (xs ys : List ViewNo) → AreDistinct xs → AreDistinct ys → All (λ (v : ViewNo). v.0 < first) xs → All (λ (v : ViewNo). first ≤ v.0) ys → AreDistinct (xs ++ ys)
  distinct_joined xs ys dx dy low high = from_distinct (xs ++ ys) (joined xs ys (to_distinct xs dx) (to_distinct ys dy) low high)

  pub behind_all : (a n : ℕ) → first ≤ a → All (λ (v : ViewNo). first ≤ v.0) (map view (range_with_len a n))
  behind_all a zero le = λ i d lt. absurd (omega (arith, lt))
  behind_all a (suc n) le = cons (map view (range_with_len (a + 1) n)) (behind_all (a + 1) n (omega (arith, le))) where
    cons : (vs : List ViewNo) → All (λ (v : ViewNo). first ≤ v.0) vs → All (λ (v : ViewNo). first ≤ v.0) (view a ∷ vs)
    cons vs all zero d lt = le
    cons vs all (suc i) d lt = all i d (omega (arith, lt))
