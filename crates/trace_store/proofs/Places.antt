-- Lists that are read at a place.
use Rattle.std.proofs.Common.{◌≡◌, ◌∙◌, ℕ, zero, suc, ◌+◌, ◌-◌, ◌<◌, ◌≤◌, List, [], ◌∷◌, ◌++◌, length, take, drop, get_or, Some, refl, ap, sym, subst, arith, slice_get, inl, inr}
use Rattle.std.specs.Prelude.{◌⊎◌}
use Rattle.std.specs.List.{AllWithin}

at_or_before : (k i : ℕ) → k < i + 1 → (k < i) ⊎ (k ≡ i)
at_or_before zero zero low = inr refl
at_or_before zero (suc i) low = inl (omega arith)
at_or_before (suc k) zero low = absurd (omega arith)
at_or_before (suc k) (suc i) low = elim (at_or_before k i (omega arith)) [
  | inl less ↦ inl (omega arith)
  | inr same ↦ inr (ap suc same)
]

module _ {X : Type 0} where
  pub is_within : (xs : List X) (i : ℕ) (x : X) → slice_get xs i ≡ Some x → i < length xs
  is_within [] i x e = absurd (cc)
  is_within (y ∷ xs) zero x e = omega arith
  is_within (y ∷ xs) (suc i) x e = omega (arith, is_within xs i x e)

  pub read_at : (xs : List X) (i : ℕ) (x d : X) → slice_get xs i ≡ Some x → get_or xs i d ≡ x
  read_at [] i x d e = absurd (cc)
  read_at (y ∷ xs) zero x d e = cc
  read_at (y ∷ xs) (suc i) x d e = read_at xs i x d e

  pub left : (xs : List X) (i : ℕ) (x : X) → slice_get xs i ≡ Some x → drop i xs ≡ x ∷ drop (i + 1) xs
  left [] i x e = absurd (cc)
  left (y ∷ xs) zero x e = let same : y ≡ x = cc in ap (λ v. v ∷ xs) same
  left (y ∷ xs) (suc i) x e = let n : suc (i + 1) ≡ suc i + 1 = omega arith in left xs i x e ∙ ap (λ m. x ∷ drop m (y ∷ xs)) n

  pub get-drop : (a r : ℕ) (ys : List X) → slice_get (drop a ys) r ≡ slice_get ys (a + r)
  get-drop zero r ys = let n : r ≡ 0 + r = omega arith in ap (slice_get ys) n
  get-drop (suc a) r [] = refl
  get-drop (suc a) r (y ∷ ys) = let n : suc (a + r) ≡ suc a + r = omega arith in get-drop a r ys ∙ ap (slice_get (y ∷ ys)) n

  take_one : (n : ℕ) (ys : List X) (x : X) → slice_get ys n ≡ Some x → take (n + 1) ys ≡ take n ys ++ x ∷ []
  take_one n [] x e = absurd (cc)
  take_one zero (y ∷ ys) x e = let same : y ≡ x = cc in ap (λ v. v ∷ []) same
  take_one (suc n) (y ∷ ys) x e = let m : suc n + 1 ≡ suc (n + 1) = omega arith in ap (λ k. take k (y ∷ ys)) m ∙ ap (λ v. y ∷ v) (take_one n ys x e)

  -- what stands from a place up to another, and one more
  pub between : (xs : List X) (start i : ℕ) (x : X) → start ≤ i → slice_get xs i ≡ Some x → take (i + 1 - start) (drop start xs) ≡ take (i - start) (drop start xs) ++ x ∷ []
  between xs start i x le e =
      let more : i + 1 - start ≡ (i - start) + 1 = omega arith in
      let at : start + (i - start) ≡ i = omega arith in
      ap (λ n. take n (drop start xs)) more ∙ take_one (i - start) (drop start xs) x (get-drop start (i - start) xs ∙ ap (slice_get xs) at ∙ e)

  pub none_between : (xs : List X) (start : ℕ) → take (start - start) (drop start xs) ≡ []
  none_between xs start = let n : start - start ≡ 0 = omega arith in ap (λ m. take m (drop start xs)) n

  -- what holds from a place up to another holds up to one more
  pub one_more : (P : X → Type 0) (xs : List X) (a i : ℕ) (x : X) → slice_get xs i ≡ Some x → P x → AllWithin P xs a i → AllWithin P xs a (i + 1)
  one_more P xs a i x is h all = λ k d le low. elim (at_or_before k i low) [
    | inl less ↦ all k d le less
    | inr same ↦ subst (λ n. P (get_or xs n d)) (sym same) (subst P (sym (read_at xs i x d is)) h)
  ]
