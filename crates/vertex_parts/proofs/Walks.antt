-- One more entry of a walk along a list.
use Rattle.std.specs.Prelude.{sum_by}
use Rattle.std.proofs.Common.{◌≡◌, ◌∙◌, ℕ, ◌+◌, ◌%◌, ◌^◌, ◌<◌, List, [], ◌∷◌, ◌++◌, length, take, get_or, append_assoc, ap, sym, arith}
use Rattle.std.proofs.lemmas.List.{take_more}
use Rattle.std.proofs.lemmas.List.Sums.{sum_by_push}

-- onto what was there before
pub walk_onto : {A B : Type 0} (f : List A → List B) → ((xs ys : List A) → f (xs ++ ys) ≡ f xs ++ f ys) → (start old : List B) (xs : List A) (i : ℕ) (e : A) → i < length xs → e ≡ get_or xs i e → old ≡ start ++ f (take i xs) → old ++ f (e ∷ []) ≡ start ++ f (take (i + 1) xs)
walk_onto f more start old xs i e low is h =
    let one : f (take (i + 1) xs) ≡ f (take i xs) ++ f (e ∷ []) = ap f (take_more xs i e low) ∙ more (take i xs) (get_or xs i e ∷ []) ∙ ap (λ v. f (take i xs) ++ f (v ∷ [])) (sym is) in
    ap (λ v. v ++ f (e ∷ [])) h ∙ append_assoc start (f (take i xs)) (f (e ∷ [])) ∙ ap (λ v. start ++ v) (sym one)

added : (old sum w : ℕ) → old ≡ sum % 2 ^ 64 → (old + w) % 2 ^ 64 ≡ (sum + w) % 2 ^ 64
added old sum w h = omega arith

-- a sum that counts modulo 2^64
pub walk_sum : {A : Type 0} (g : A → ℕ) (old : ℕ) (xs : List A) (i : ℕ) (e : A) → i < length xs → e ≡ get_or xs i e → old ≡ sum_by g (take i xs) % 2 ^ 64 → (old + g e) % 2 ^ 64 ≡ sum_by g (take (i + 1) xs) % 2 ^ 64
walk_sum g old xs i e low is h =
    let one : sum_by g (take (i + 1) xs) ≡ sum_by g (take i xs) + g e = ap (sum_by g) (take_more xs i e low) ∙ sum_by_push g (take i xs) (get_or xs i e) ∙ ap (λ v. sum_by g (take i xs) + g v) (sym is) in
    added old (sum_by g (take i xs)) (g e) h ∙ ap (λ n. n % 2 ^ 64) (sym one)
