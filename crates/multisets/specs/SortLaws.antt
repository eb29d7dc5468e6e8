-- Sorted lists that are one multiset are one list, so two lists are one multiset exactly where sorting makes them one list.
use Rattle.std.specs.Prelude.{◌≡◌, ℕ, zero, suc, ◌<◌, Bool, true, false, List, [], ◌∷◌, length, get_or, if◌then◌else◌, refl}
use Rattle.std.specs.Bool.{Decides}
use Rattle.std.specs.Cmp.{both_ways, IsStrictWeakOrder, IsTotalOrder}
use Rattle.std.specs.declared.cmp.Ordering.{Ordering}
use Rattle.std.specs.declared.cmp.Ordering.TheVariants.{Less, Equal, Greater}
use Rattle.std.specs.Ordering.{is_lt, is_eq, ordering_reverse}
use Rattle.std.specs.List.Sorted.{IsPermutation, IsSorted, IsSortedBy}
use Rattle.std.proofs.Common.{arith, ap, sym, ◌∙◌, subst, inl, inr, add-one}
use Rattle.std.proofs.lemmas.Bool.{cases_Bool}
use Rattle.std.proofs.lemmas.Cmp.{tied_itself}
use Rattle.std.proofs.lemmas.List.Sorted.{ranks_by, sorted_far}
use Rattle.std.proofs.lemmas.Slice.Eq.{slice_eq-Decides}
use lib.Pointwise.{pointwise}
use Rattle.multisets.specs.Multisets.{IsExact, often, AreOne, are_one}
use Rattle.multisets.specs.CountLaws.{here, one-told, one-tells, one-trans, one-sym}
use Rattle.multisets.specs.OrderLaws.{permuted-one}

module _ {A : Type 0} (same : A → A → Bool) (exact : IsExact same) where
  stands-at : (x : A) (ys : List A) → 0 < often same x ys → (j : ℕ) × (j < length ys) × (get_or ys j x ≡ x)
  stands-at x [] h = absurd (omega arith)
  stands-at x (y ∷ ys) h = elim (cases_Bool (same x y)) [
    | inl e ↦ (zero, omega arith, sym (exact.one x y e))
    | inr e ↦ let at = stands-at x ys (omega (arith, simp e at h)) in (suc (at.0), omega (arith, at.1), at.2)
  ]

  module _ (lt : A → A → Bool) (order : IsStrictWeakOrder lt) (tied : (x y : A) → lt x y ≡ false → lt y x ≡ false → x ≡ y) where
    rest-sorted : (x : A) (xs : List A) → IsSortedBy lt (x ∷ xs) → IsSortedBy lt xs
    rest-sorted x xs s = λ k d low high. let near = s (suc k) d (omega arith) (omega arith) in let moved = rw add-one at near in rw add-one moved

    none-before : (y : A) (ys : List A) (x : A) → IsSortedBy lt (y ∷ ys) → 0 < often same x (y ∷ ys) → lt x y ≡ false
    none-before y ys x s h = let at = stands-at x (y ∷ ys) h in subst (λ z. lt z y ≡ false) at.2 (sorted_far lt order (y ∷ ys) s zero at.0 x (omega arith) at.1)

    pub sorted-same : (xs ys : List A) → IsSortedBy lt xs → IsSortedBy lt ys → AreOne same xs ys → xs ≡ ys
    sorted-same [] [] s t e = refl
    sorted-same [] (y ∷ ys) s t e = absurd (omega (arith, e.counts y, here same exact y ys))
    sorted-same (x ∷ xs) [] s t e = absurd (omega (arith, e.counts x, here same exact x xs))
    sorted-same (x ∷ xs) (y ∷ ys) s t e =
        let one : x ≡ y = tied x y (none-before y ys x t (omega (arith, e.counts x, here same exact x xs))) (none-before x xs y s (omega (arith, e.counts y, here same exact y ys))) in
        let rest : xs ≡ ys = sorted-same xs ys (rest-sorted x xs s) (rest-sorted y ys t) (record { counts = λ z. omega (arith, e.counts z, ap {B = ℕ} (λ w. if same z w then 1 else 0) one) }) in
        ap (λ w. w ∷ xs) one ∙ ap (λ ws. y ∷ ws) rest

-- ---- by an order whose equal elements are one

neither-less : (a b : Ordering) → a ≡ ordering_reverse b → is_lt a ≡ false → is_lt b ≡ false → a ≡ Equal
neither-less Less b e f g = absurd cc
neither-less Equal b e f g = refl
neither-less Greater Less e f g = absurd cc
neither-less Greater Equal e f g = absurd cc
neither-less Greater Greater e f g = absurd cc

equal-told : (a : Ordering) → is_eq a ≡ true → a ≡ Equal
equal-told Less e = absurd cc
equal-told Equal e = refl
equal-told Greater e = absurd cc

module _ {A : Type 0} (eq : A → A → Bool) (cmp : A → A → Ordering) (order : IsTotalOrder cmp) (same : (x y : A) → cmp x y ≡ Equal → x ≡ y) (matches : (x y : A) → eq x y ≡ is_eq (cmp x y)) where
  eq-itself : (x : A) → eq x x ≡ true
  eq-itself x = matches x x ∙ ap is_eq (tied_itself order x)

  eq-one : (x y : A) → eq x y ≡ true → x ≡ y
  eq-one x y e = same x y (equal-told (cmp x y) (sym (matches x y) ∙ e))

  pub eq-exact : IsExact eq
  eq-exact = record { itself = eq-itself; one = eq-one }

  decides : (x y : A) → Decides (eq x y) (x ≡ y)
  decides x y = (eq-one x y, λ e. ap (λ z. eq x z) (sym e) ∙ eq-itself x)

  pub sorted-tells : (ls rs lt rt : List A) (b : Bool) → IsPermutation ls lt → IsPermutation rs rt → IsSorted cmp lt → IsSorted cmp rt → b ≡ pointwise eq lt rt → b ≡ are_one eq ls rs
  sorted-tells ls rs lt rt b p q s t e = both_ways b (are_one eq ls rs)
      (λ h. one-tells eq ls rs (one-trans eq ls lt rs (permuted-one eq ls lt p) (one-trans eq lt rt rs (alike ((slice_eq-Decides decides lt rt b e).0 h)) (one-sym eq rs rt (permuted-one eq rs rt q)))))
      (λ h. (slice_eq-Decides decides lt rt b e).1 (sorted-same eq eq-exact (λ x y. is_lt (cmp x y)) (ranks_by order (λ x. x)) (λ x y f g. same x y (neither-less (cmp x y) (cmp y x) (order.antisymm x y) f g)) lt rt s t
      (one-trans eq lt ls rt (one-sym eq ls lt (permuted-one eq ls lt p)) (one-trans eq ls rs rt (one-told eq eq-exact ls rs h) (permuted-one eq rs rt q))))) where
        alike : lt ≡ rt → AreOne eq lt rt
        alike d = record { counts = λ x. ap (λ ws. often eq x ws) d }
