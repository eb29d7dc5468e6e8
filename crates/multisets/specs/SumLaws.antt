-- Counts and picked elements as sums over a list.
use Rattle.std.specs.Prelude.{◌≡◌, ℕ, ◌+◌, Bool, true, false, List, [], ◌∷◌, filter, sum_by, if◌then◌else◌, refl}
use Rattle.std.proofs.Common.{arith, ◌∙◌}
use Rattle.std.proofs.lemmas.List.Sums.{sum_by-cons}
use Rattle.multisets.specs.Multisets.{often}

pub often-sum : {A : Type 0} (same : A → A → Bool) (x : A) (xs : List A) → often same x xs ≡ sum_by (λ y. if same x y then 1 else 0) xs
often-sum same x [] = refl
often-sum same x (y ∷ xs) = omega (arith, often-sum same x xs, sum_by-cons (λ z. if same x z then 1 else 0) y xs)

pub sum-same : {A : Type 0} (f g : A → ℕ) (xs : List A) → ((x : A) → f x ≡ g x) → sum_by f xs ≡ sum_by g xs
sum-same f g [] h = refl
sum-same f g (x ∷ xs) h = omega (arith, sum_by-cons f x xs, sum_by-cons g x xs, h x, sum-same f g xs h)

picked-by : {A : Type 0} (f : A → ℕ) (b : Bool) (x : A) (rest : List A) (n : ℕ) → sum_by f rest ≡ n → sum_by f (if b then x ∷ rest else rest) ≡ (if b then f x else 0) + n
picked-by f true x rest n e = omega (arith, e, sum_by-cons f x rest)
picked-by f false x rest n e = omega (arith, e)

pub picked-sum : {A : Type 0} (f : A → ℕ) (picks : A → Bool) (xs : List A) → sum_by f (filter picks xs) ≡ sum_by (λ x. if picks x then f x else 0) xs
picked-sum f picks [] = refl
picked-sum f picks (x ∷ xs) = picked-by f (picks x) x (filter picks xs) (sum_by (λ y. if picks y then f y else 0) xs) (picked-sum f picks xs) ∙ omega (arith, sum_by-cons (λ y. if picks y then f y else 0) x xs)
