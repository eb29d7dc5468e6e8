-- A row of places that is filled from the front.
use Rattle.std.proofs.Common.{◌≡◌, ◌∙◌, ℕ, zero, suc, ◌+◌, ◌-◌, ◌<◌, List, [], ◌∷◌, ◌++◌, length, map, get_or, Option, Some, None, refl, ap, sym, arith, slice_get, length-append}
use Rattle.std.specs.Prelude.{replicate, slice_set}
use Rattle.chunk_list.specs.Places.{somes, filled, IsFilled}

module _ {X : Type 0} where
  nothing : (m : ℕ) → somes {X = X} (replicate m None) ≡ []
  nothing zero = refl
  nothing (suc m) = nothing m

  pub somes_filled : (xs : List X) (m : ℕ) → somes (map Some xs ++ replicate m None) ≡ xs
  somes_filled [] m = nothing m
  somes_filled (x ∷ xs) m = ap (λ v. x ∷ v) (somes_filled xs m)

  pub first_empty : (xs : List X) (m : ℕ) → get_or (map Some xs ++ replicate m None) (length xs) None ≡ None
  first_empty [] zero = refl
  first_empty [] (suc m) = refl
  first_empty (x ∷ xs) m = first_empty xs m

  pub written : (xs : List X) (x : X) (m : ℕ) → slice_set (map Some xs ++ replicate (suc m) None) (length xs) (Some x) ≡ map Some (xs ++ x ∷ []) ++ replicate m None
  written [] x m = refl
  written (y ∷ xs) x m = ap (λ v. Some y ∷ v) (written xs x m)

  pub found : (xs : List X) (cs : List (Option X)) (i : ℕ) → i < length xs → get_or (map Some xs ++ cs) i None ≡ slice_get xs i
  found [] cs i low = absurd (omega arith)
  found (x ∷ xs) cs zero low = refl
  found (x ∷ xs) cs (suc i) low = found xs cs i (omega arith)

  pub there : (xs : List X) (i : ℕ) → i < length xs → (x : X) × (slice_get xs i ≡ Some x)
  there [] i low = absurd (omega arith)
  there (x ∷ xs) zero low = (x, refl)
  there (x ∷ xs) (suc i) low = there xs i (omega arith)

  pub length_places : (xs : List X) (m : ℕ) → length (map Some xs ++ replicate m None) ≡ length xs + m
  length_places [] zero = refl
  length_places [] (suc m) = omega (arith, length_places [] m)
  length_places (x ∷ xs) m = omega (arith, length_places xs m)

  -- what a push leaves, where there is room
  pub pushed : (cs : List (Option X)) (x : X) → cs ≡ filled (somes cs) 64 → length (somes cs) < 64
      → (slice_set cs (length (somes cs)) (Some x) ≡ filled (somes cs ++ x ∷ []) 64) × (somes (slice_set cs (length (somes cs)) (Some x)) ≡ somes cs ++ x ∷ [])
  pushed cs x laid low =
      let xs = somes cs in
      let room : 64 - length xs ≡ suc (63 - length xs) = omega arith in
      let less : 63 - length xs ≡ 64 - length (xs ++ x ∷ []) = omega (arith, length-append xs (x ∷ [])) in
      let all : slice_set cs (length xs) (Some x) ≡ map Some (xs ++ x ∷ []) ++ replicate (63 - length xs) None =
      ap (λ v. slice_set v (length xs) (Some x)) (laid ∙ ap (λ n. map Some xs ++ replicate n None) room) ∙ written xs x (63 - length xs) in
      (all ∙ ap (λ n. map Some (xs ++ x ∷ []) ++ replicate n None) less, ap somes all ∙ somes_filled (xs ++ x ∷ []) (63 - length xs))

  -- the item at a place of such a row
  pub holds : (cs : List (Option X)) (i : ℕ) → cs ≡ filled (somes cs) 64 → i < length (somes cs) → IsFilled cs i
  holds cs i laid low =
      let x = there (somes cs) i low in
      (x.0, ap (λ v. get_or v i None) laid ∙ found (somes cs) (replicate (64 - length (somes cs)) None) i low ∙ x.1)

  pub is_item : (cs : List (Option X)) (i : ℕ) (x : X) → cs ≡ filled (somes cs) 64 → i < length (somes cs) → get_or cs i None ≡ Some x → slice_get (somes cs) i ≡ Some x
  is_item cs i x laid low e = sym (ap (λ v. get_or v i None) laid ∙ found (somes cs) (replicate (64 - length (somes cs)) None) i low) ∙ e

  -- the first place without an item
  pub is_empty : (cs : List (Option X)) → cs ≡ filled (somes cs) 64 → get_or cs (length (somes cs)) None ≡ None
  is_empty cs laid = ap (λ v. get_or v (length (somes cs)) None) laid ∙ first_empty (somes cs) (64 - length (somes cs))

  pub is_within : (cs : List (Option X)) → cs ≡ filled (somes cs) 64 → length (somes cs) < 64 → length (somes cs) < length cs
  is_within cs laid low = omega (arith, ap length laid, length_places (somes cs) (64 - length (somes cs)))
