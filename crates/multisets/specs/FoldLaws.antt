-- A fold whose order doesn't matter depends on the multiset alone.
use Rattle.std.specs.Prelude.{◌≡◌, ◌<◌, Bool, List, [], ◌∷◌, fold, if◌then◌else◌, refl}
use Rattle.std.proofs.Common.{arith, ap, sym, ◌∙◌, inl, inr}
use Rattle.std.proofs.lemmas.Bool.{cases_Bool}
use Rattle.multisets.specs.Multisets.{IsExact, often, AreOne}
use Rattle.multisets.specs.CountLaws.{here}

-- without one element
abbrev pub without : {A : Type 0} → (A → A → Bool) → A → List A → List A
without same x [] = []
without same x (y ∷ ys) = if same x y then ys else y ∷ without same x ys

module _ {A : Type 0} (same : A → A → Bool) (exact : IsExact same) where
  pub often-without : (z x : A) (ys : List A) → 0 < often same x ys → often same z ys ≡ often same z (x ∷ without same x ys)
  often-without z x [] h = absurd (omega arith)
  often-without z x (y ∷ ys) h = elim (cases_Bool (same x y)) [
    | inl e ↦ rw (e, exact.one x y e) refl
    | inr e ↦ rw e (omega (arith, often-without z x ys (omega (arith, simp e at h))))
  ]

  module _ {B : Type 0} (f : B → A → B) (swaps : (b : B) (x y : A) → f (f b x) y ≡ f (f b y) x) where
    fold-without : (b : B) (x : A) (ys : List A) → 0 < often same x ys → fold f b ys ≡ fold f (f b x) (without same x ys)
    fold-without b x [] h = absurd (omega arith)
    fold-without b x (y ∷ ys) h = elim (cases_Bool (same x y)) [
      | inl e ↦ rw (e, exact.one x y e) refl
      | inr e ↦ rw e (fold-without (f b y) x ys (omega (arith, simp e at h)) ∙ ap (λ c. fold f c (without same x ys)) (swaps b y x))
    ]

    pub fold-one : (b : B) (xs ys : List A) → AreOne same xs ys → fold f b xs ≡ fold f b ys
    fold-one b [] [] s = refl
    fold-one b [] (y ∷ ys) s = absurd (omega (arith, s.counts y, here same exact y ys))
    fold-one b (x ∷ xs) ys s =
        let stands : 0 < often same x ys = omega (arith, s.counts x, here same exact x xs) in
        fold-one (f b x) xs (without same x ys) (record { counts = λ z. omega (arith, s.counts z, often-without z x ys stands) }) ∙ sym (fold-without b x ys stands)
