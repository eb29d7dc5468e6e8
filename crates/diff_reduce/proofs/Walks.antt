-- One more entry of a walk along a list, for what each entry adds.
use Rattle.std.proofs.Common.{◌≡◌, ◌∙◌, ℕ, ◌+◌, ◌<◌, List, [], ◌∷◌, ◌++◌, length, take, get_or, append_assoc, ap, sym}
use Rattle.std.proofs.lemmas.List.{take_more}

pub walk_more : {A B : Type 0} (f : List A → List B) → ((xs ys : List A) → f (xs ++ ys) ≡ f xs ++ f ys) → (xs : List A) (i : ℕ) (e : A) → i < length xs → e ≡ get_or xs i e → f (take (i + 1) xs) ≡ f (take i xs) ++ f (e ∷ [])
walk_more f more xs i e low is = ap f (take_more xs i e low) ∙ more (take i xs) (get_or xs i e ∷ []) ∙ ap (λ v. f (take i xs) ++ f (v ∷ [])) (sym is)

-- onto what was there before
pub walk_onto : {A B : Type 0} (f : List A → List B) → ((xs ys : List A) → f (xs ++ ys) ≡ f xs ++ f ys) → (start old new : List B) (xs : List A) (i : ℕ) (e : A) → i < length xs → e ≡ get_or xs i e → old ≡ start ++ f (take i xs) → new ≡ old ++ f (e ∷ []) → new ≡ start ++ f (take (i + 1) xs)
walk_onto f more start old new xs i e low is h made = made ∙ ap (λ v. v ++ f (e ∷ [])) h ∙ append_assoc start (f (take i xs)) (f (e ∷ [])) ∙ ap (λ v. start ++ v) (sym (walk_more f more xs i e low is))

-- from nothing
pub walk_step : {A B : Type 0} (f : List A → List B) → ((xs ys : List A) → f (xs ++ ys) ≡ f xs ++ f ys) → (old new : List B) (xs : List A) (i : ℕ) (e : A) → i < length xs → e ≡ get_or xs i e → old ≡ f (take i xs) → new ≡ old ++ f (e ∷ []) → new ≡ f (take (i + 1) xs)
walk_step f more old new xs i e low is h made = made ∙ ap (λ v. v ++ f (e ∷ [])) h ∙ sym (walk_more f more xs i e low is)
