-- Two lists are one multiset exactly where they are permutations.
use Rattle.std.specs.Prelude.{◌<◌, Bool, List, [], ◌∷◌, if◌then◌else◌}
use Rattle.std.specs.List.Sorted.{IsPermutation}
use Rattle.std.proofs.Common.{arith, sym, ◌∙◌, inl, inr}
use Rattle.std.proofs.lemmas.Bool.{cases_Bool}
use Rattle.std.proofs.lemmas.List.Sorted.{sum_by-IsPermutation, IsPermutation-refl, IsPermutation-trans, IsPermutation-cons, IsPermutation-append_left, IsPermutation-append_comm}
use Rattle.multisets.specs.Multisets.{IsExact, often, AreOne}
use Rattle.multisets.specs.CountLaws.{here}
use Rattle.multisets.specs.FoldLaws.{without, often-without}
use Rattle.multisets.specs.SumLaws.{often-sum}

pub permuted-one : {A : Type 0} (same : A → A → Bool) (xs ys : List A) → IsPermutation xs ys → AreOne same xs ys
permuted-one same xs ys s = record { counts = λ x. often-sum same x xs ∙ sym (sum_by-IsPermutation (λ y. if same x y then 1 else 0) xs ys s) ∙ sym (often-sum same x ys) }

module _ {A : Type 0} (same : A → A → Bool) (exact : IsExact same) where
  first-two : (x y : A) (zs : List A) → IsPermutation (x ∷ y ∷ zs) (y ∷ x ∷ zs)
  first-two x y zs = IsPermutation-append_left zs (x ∷ y ∷ []) (y ∷ x ∷ []) (IsPermutation-append_comm (x ∷ []) (y ∷ []))

  without-permuted : (x : A) (ys : List A) → 0 < often same x ys → IsPermutation (x ∷ without same x ys) ys
  without-permuted x [] h = absurd (omega arith)
  without-permuted x (y ∷ ys) h = elim (cases_Bool (same x y)) [
    | inl e ↦ rw (e, exact.one x y e) (IsPermutation-refl (y ∷ ys))
    | inr e ↦ rw e (IsPermutation-trans (x ∷ y ∷ without same x ys) (y ∷ x ∷ without same x ys) (y ∷ ys) (first-two x y (without same x ys)) (IsPermutation-cons y (x ∷ without same x ys) ys (without-permuted x ys (omega (arith, simp e at h)))))
  ]

  pub one-permuted : (xs ys : List A) → AreOne same xs ys → IsPermutation xs ys
  one-permuted [] [] s = IsPermutation-refl []
  one-permuted [] (y ∷ ys) s = absurd (omega (arith, s.counts y, here same exact y ys))
  one-permuted (x ∷ xs) ys s =
      let stands : 0 < often same x ys = omega (arith, s.counts x, here same exact x xs) in
      IsPermutation-trans (x ∷ xs) (x ∷ without same x ys) ys
      (IsPermutation-cons x xs (without same x ys) (one-permuted xs (without same x ys) (record { counts = λ z. omega (arith, s.counts z, often-without same exact z x ys stands) })))
      (without-permuted x ys stands)
