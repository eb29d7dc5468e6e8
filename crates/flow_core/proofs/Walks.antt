-- One more entry of a walk along a list.
use Rattle.std.proofs.Common.{◌≡◌, ◌∙◌, ℕ, ◌+◌, ◌<◌, ◌≤◌, List, [], ◌∷◌, ◌++◌, length, take, get_or, append_assoc, ap, sym, subst}
use Rattle.std.proofs.lemmas.List.{take_more, take_all}

pub walk_more : {A B : Type 0} (f : List A → List B) → ((xs ys : List A) → f (xs ++ ys) ≡ f xs ++ f ys) → (xs : List A) (i : ℕ) (e : A) → i < length xs → e ≡ get_or xs i e → f (take (i + 1) xs) ≡ f (take i xs) ++ f (e ∷ [])
walk_more f more xs i e low is = ap f (take_more xs i e low) ∙ more (take i xs) (get_or xs i e ∷ []) ∙ ap (λ v. f (take i xs) ++ f (v ∷ [])) (sym is)

-- onto what was there before
pub walk_onto : {A B : Type 0} (f : List A → List B) → ((xs ys : List A) → f (xs ++ ys) ≡ f xs ++ f ys) → (start old : List B) (xs : List A) (i : ℕ) (e : A) → i < length xs → e ≡ get_or xs i e → old ≡ start ++ f (take i xs) → old ++ f (e ∷ []) ≡ start ++ f (take (i + 1) xs)
walk_onto f more start old xs i e low is h = ap (λ v. v ++ f (e ∷ [])) h ∙ append_assoc start (f (take i xs)) (f (e ∷ [])) ∙ ap (λ v. start ++ v) (sym (walk_more f more xs i e low is))

-- from nothing
pub walk_next : {A B : Type 0} (f : List A → List B) → ((xs ys : List A) → f (xs ++ ys) ≡ f xs ++ f ys) → (old : List B) (xs : List A) (i : ℕ) (e : A) → i < length xs → e ≡ get_or xs i e → old ≡ f (take i xs) → old ++ f (e ∷ []) ≡ f (take (i + 1) xs)
walk_next f more old xs i e low is h = ap (λ v. v ++ f (e ∷ [])) h ∙ sym (walk_more f more xs i e low is)

-- what holds of the whole list's value holds of what a walk along it has made
pub walked : {A B : Type 0} (P : List B → Type 0) (f : List A → List B) (xs whole : List A) (i : ℕ) (kept made : List B) → made ≡ kept → kept ≡ f (take i xs) → length xs ≤ i → xs ≡ whole → P (f whole) → P made
walked P f xs whole i kept made is h low all p = subst P (sym (is ∙ h ∙ ap f (take_all i xs low ∙ all))) p

-- what one more step of a walk has made
pub walk_step : {A B : Type 0} (f : List A → List B) → ((xs ys : List A) → f (xs ++ ys) ≡ f xs ++ f ys) → (old new : List B) (xs : List A) (i : ℕ) (e : A) → i < length xs → e ≡ get_or xs i e → old ≡ f (take i xs) → new ≡ old ++ f (e ∷ []) → new ≡ f (take (i + 1) xs)
walk_step f more old new xs i e low is h made = made ∙ walk_next f more old xs i e low is h
