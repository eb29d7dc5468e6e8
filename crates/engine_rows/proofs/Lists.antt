-- Lists.
use Rattle.std.proofs.Common.{◌≡◌, ◌∙◌, ℕ, zero, suc, ◌+◌, ◌-◌, ◌<◌, ◌≤◌, ◌++◌, List, [], ◌∷◌, length, take, drop, slice_get, All, Option, Some, refl, sym, ap, subst, arith, inl, inr}
use Rattle.std.proofs.lemmas.Option.{slice_get_within, get_or_from_slice_get}
use Rattle.std.proofs.Math.Nat.{eq-or-lt_of_le}

pub all_from : {A : Type 0} (P : A → Type 0) (xs : List A) → ((i : ℕ) (x : A) → slice_get xs i ≡ Some x → P x) → All P xs
all_from P [] each k d low = absurd (omega arith)
all_from P (y ∷ ys) each zero d low = each zero y refl
all_from P (y ∷ ys) each (suc k) d low = all_from P ys (λ i x at. each (suc i) x at) k d (omega (arith, low))

take_none : {A : Type 0} (n : ℕ) → take {A = A} n [] ≡ []
take_none zero = refl
take_none (suc n) = refl

take_whole : {A : Type 0} (n : ℕ) (xs : List A) → length xs ≤ n → take n xs ≡ xs
take_whole n [] all = take_none n
take_whole zero (x ∷ xs) all = absurd (omega arith)
take_whole {A} (suc n) (x ∷ xs) all = ap (λ (ys : List A). x ∷ ys) (take_whole n xs (omega (arith, all)))

-- a list in two parts
pub parted : {A : Type 0} (n : ℕ) (xs : List A) → take n xs ++ take (length xs - n) (drop n xs) ≡ xs
parted zero xs = take_whole (length xs - 0) xs (omega arith)
parted (suc n) [] = take_none (0 - suc n)
parted {A} (suc n) (x ∷ xs) =
    let less : length (x ∷ xs) - suc n ≡ length xs - n = omega arith in
    ap (λ (k : ℕ). x ∷ (take n xs ++ take k (drop n xs))) less ∙ ap (λ (ys : List A). x ∷ ys) (parted n xs)

pub get_front : {A : Type 0} (n : ℕ) (xs : List A) (i : ℕ) (x : A) → slice_get (take n xs) i ≡ Some x → slice_get xs i ≡ Some x
get_front zero [] i x at = absurd cc
get_front zero (y ∷ ys) i x at = absurd cc
get_front (suc n) [] i x at = absurd cc
get_front (suc n) (y ∷ ys) zero x at = at
get_front (suc n) (y ∷ ys) (suc i) x at = get_front n ys i x at

at_of : {A : Type 0} (P : A → Type 0) (xs : List A) → All P xs → (i : ℕ) (x : A) → slice_get xs i ≡ Some x → P x
at_of P xs all i x at = subst P (get_or_from_slice_get xs i x x at) (all i x (slice_get_within xs i x at))

pub all_front : {A : Type 0} (P : A → Type 0) (n : ℕ) (xs : List A) → All P xs → All P (take n xs)
all_front P n xs all = all_from P (take n xs) (λ i x at. at_of P xs all i x (get_front n xs i x at))

some_one : {A : Type 0} (x y : A) → Some x ≡ Some y → x ≡ y
some_one x y is = cc

-- what holds of the items before one, and of it, holds of those before the next
pub one_more : {A : Type 0} (P : A → Type 0) (xs : List A) (n : ℕ) (y : A) → slice_get xs n ≡ Some y → P y → ((i : ℕ) (x : A) → i < n → slice_get xs i ≡ Some x → P x)
    → (i : ℕ) (x : A) → i < n + 1 → slice_get xs i ≡ Some x → P x
one_more P xs n y last holds before i x low at = elim (eq-or-lt_of_le (let le : i ≤ n = omega (arith, low) in le)) [
  | inl same ↦ subst P (some_one y x (sym last ∙ sym (ap (slice_get xs) same) ∙ at)) holds
  | inr lt ↦ before i x lt at
]
