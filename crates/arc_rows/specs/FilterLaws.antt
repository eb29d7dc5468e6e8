-- What a test keeps of a list in any order of it, and of what a weaker test keeps.
use Rattle.std.proofs.Common.{◌≡◌, ◌∙◌, ◌<◌, ℕ, zero, suc, Bool, true, false, cond, List, [], ◌∷◌, ◌++◌, length, get_or, set, filter, sym, ap, subst, refl, append_assoc, arith}
use Rattle.std.specs.Prelude.{◌||◌}
use Rattle.std.specs.List.{swap}
use Rattle.std.specs.List.Sorted.{IsPermutation}
use Rattle.std.proofs.lemmas.List.Edits.{swap_is}
use Rattle.std.proofs.lemmas.List.Sorted.{IsPermutation-refl, IsPermutation-keeps, IsPermutation-trans, IsPermutation-append_left, IsPermutation-append_right, IsPermutation-append_comm}

-- ---- two parts in each other's place

exchanged : {A : Type 0} (xs ys zs : List A) → IsPermutation (xs ++ (ys ++ zs)) (ys ++ (xs ++ zs))
exchanged xs ys zs =
    subst (λ us. IsPermutation us (ys ++ (xs ++ zs))) (append_assoc xs ys zs)
    (subst (λ us. IsPermutation ((xs ++ ys) ++ zs) us) (append_assoc ys xs zs) (IsPermutation-append_left zs (xs ++ ys) (ys ++ xs) (IsPermutation-append_comm xs ys)))

module _ {A : Type 0} (p : A → Bool) where
  -- what the test keeps of one
  kept : A → List A
  kept x = cond (p x) (x ∷ []) []

  kept-by : (b : Bool) (x : A) (xs : List A) → cond b (x ∷ xs) xs ≡ cond b (x ∷ []) [] ++ xs
  kept-by true x xs = refl
  kept-by false x xs = refl

  kept-first : (x : A) (xs : List A) → filter p (x ∷ xs) ≡ kept x ++ filter p xs
  unfolding kept
  kept-first x xs = kept-by (p x) x (filter p xs)

  as-kept : (x y : A) (xs ys : List A) → IsPermutation (kept x ++ filter p xs) (kept y ++ filter p ys) → IsPermutation (filter p (x ∷ xs)) (filter p (y ∷ ys))
  as-kept x y xs ys s = subst (λ us. IsPermutation us (filter p (y ∷ ys))) (sym (kept-first x xs)) (subst (λ us. IsPermutation (kept x ++ filter p xs) us) (sym (kept-first y ys)) s)

  -- the first, and another one, in each other's place
  front-swapped : (x d : A) (xs : List A) (j : ℕ) → j < length xs → IsPermutation (kept x ++ filter p xs) (kept (get_or xs j d) ++ filter p (set xs j x))
  front-swapped x d [] j low = absurd (omega (arith, low))
  front-swapped x d (y ∷ ys) zero low =
      subst (λ us. IsPermutation (kept x ++ us) (kept y ++ filter p (x ∷ ys))) (sym (kept-first y ys))
      (subst (λ us. IsPermutation (kept x ++ (kept y ++ filter p ys)) (kept y ++ us)) (sym (kept-first x ys)) (exchanged (kept x) (kept y) (filter p ys)))
  front-swapped x d (y ∷ ys) (suc j) low =
      let z = get_or ys j d in
      let rest = set ys j x in
      subst (λ us. IsPermutation (kept x ++ us) (kept z ++ filter p (y ∷ rest))) (sym (kept-first y ys))
      (subst (λ us. IsPermutation (kept x ++ (kept y ++ filter p ys)) (kept z ++ us)) (sym (kept-first y rest))
      (IsPermutation-trans (kept x ++ (kept y ++ filter p ys)) (kept y ++ (kept x ++ filter p ys)) (kept z ++ (kept y ++ filter p rest))
      (exchanged (kept x) (kept y) (filter p ys))
      (IsPermutation-trans (kept y ++ (kept x ++ filter p ys)) (kept y ++ (kept z ++ filter p rest)) (kept z ++ (kept y ++ filter p rest))
      (IsPermutation-append_right (kept y) (kept x ++ filter p ys) (kept z ++ filter p rest) (front-swapped x d ys j (omega (arith, low))))
      (exchanged (kept y) (kept z) (filter p rest)))))

  two-swapped : (d : A) (xs : List A) (i j : ℕ) → i < length xs → j < length xs → IsPermutation (filter p xs) (filter p (set (set xs i (get_or xs j d)) j (get_or xs i d)))
  two-swapped d [] i j low under = absurd (omega (arith, low))
  two-swapped d (x ∷ xs) zero zero low under = IsPermutation-refl (filter p (x ∷ xs))
  two-swapped d (x ∷ xs) zero (suc j) low under = as-kept x (get_or xs j d) xs (set xs j x) (front-swapped x d xs j (omega (arith, under)))
  two-swapped d (x ∷ xs) (suc i) zero low under = as-kept x (get_or xs i d) xs (set xs i x) (front-swapped x d xs i (omega (arith, low)))
  two-swapped d (x ∷ xs) (suc i) (suc j) low under =
      let rest = set (set xs i (get_or xs j d)) j (get_or xs i d) in
      as-kept x x xs rest (IsPermutation-append_right (kept x) (filter p xs) (filter p rest) (two-swapped d xs i j (omega (arith, low)) (omega (arith, under))))

  swapped : (xs : List A) (i j : ℕ) → i < length xs → j < length xs → IsPermutation (filter p xs) (filter p (swap xs i j))
  swapped [] i j low under = absurd (omega (arith, low))
  swapped (x ∷ xs) i j low under = subst (λ ys. IsPermutation (filter p (x ∷ xs)) (filter p ys)) (swap_is (x ∷ xs) i j x low under) (two-swapped x (x ∷ xs) i j low under)

  -- a test keeps the same of a list in another order
  pub filter-permuted : (xs ys : List A) → IsPermutation xs ys → IsPermutation (filter p xs) (filter p ys)
  filter-permuted xs ys s = IsPermutation-keeps xs (λ (zs : List A). IsPermutation (filter p xs) (filter p zs)) (IsPermutation-refl (filter p xs))
      (λ zs i j low under h. IsPermutation-trans (filter p xs) (filter p zs) (filter p (swap zs i j)) h (swapped zs i j low under)) ys s

-- ---- one test behind another

module _ {A : Type 0} (p q : A → Bool) (weaker : (x : A) → q x ≡ true → p x ≡ true) where
  one-by : (a b : Bool) (x : A) (xs ys : List A) → p x ≡ a → q x ≡ b → filter q xs ≡ ys → filter q (cond a (x ∷ xs) xs) ≡ cond b (x ∷ ys) ys
  one-by true true x xs ys ea eb h = ap (λ b. cond b (x ∷ filter q xs) (filter q xs)) eb ∙ ap (λ zs. x ∷ zs) h
  one-by true false x xs ys ea eb h = ap (λ b. cond b (x ∷ filter q xs) (filter q xs)) eb ∙ h
  one-by false true x xs ys ea eb h = absurd (clash (sym ea ∙ weaker x eb)) where
    clash : false ≡ true → ⊥
    clash e = absurd cc
  one-by false false x xs ys ea eb h = h

  -- what passes a test is kept by a weaker one
  pub filter-weaker : (xs : List A) → filter q (filter p xs) ≡ filter q xs
  filter-weaker [] = refl
  filter-weaker (x ∷ xs) = one-by (p x) (q x) x (filter p xs) (filter q xs) refl refl (filter-weaker xs)

either-first : (a b : Bool) → a ≡ true → a || b ≡ true
either-first true b e = refl
either-first false b e = absurd cc

either-second : (a b : Bool) → b ≡ true → a || b ≡ true
either-second true b e = refl
either-second false b e = e

module _ {A : Type 0} (p q : A → Bool) (xs : List A) where
  pub filter-first : filter p (filter (λ x. p x || q x) xs) ≡ filter p xs
  filter-first = filter-weaker (λ x. p x || q x) p (λ x e. either-first (p x) (q x) e) xs

  pub filter-second : filter q (filter (λ x. p x || q x) xs) ≡ filter q xs
  filter-second = filter-weaker (λ x. p x || q x) q (λ x e. either-second (p x) (q x) e) xs
