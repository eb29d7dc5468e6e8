-- One more entry of a walk along a list.
use Rattle.std.proofs.Common.{◌≡◌, ◌∙◌, ℕ, ◌+◌, ◌<◌, ◌≤◌, List, [], ◌∷◌, ◌++◌, length, take, get_or, append_assoc, ap, sym}
use Rattle.std.proofs.lemmas.List.{take_more, take_all}

module _ {A B : Type 0} (f : List A → List B) (more : (xs ys : List A) → f (xs ++ ys) ≡ f xs ++ f ys) where
  walk_more : (xs : List A) (i : ℕ) (e : A) → i < length xs → e ≡ get_or xs i e → f (take (i + 1) xs) ≡ f (take i xs) ++ f (e ∷ [])
  walk_more xs i e low is = ap f (take_more xs i e low) ∙ more (take i xs) (get_or xs i e ∷ []) ∙ ap (λ v. f (take i xs) ++ f (v ∷ [])) (sym is)

  -- from nothing
  pub walk_step : (old new : List B) (xs : List A) (i : ℕ) (e : A) → i < length xs → e ≡ get_or xs i e → old ≡ f (take i xs) → new ≡ old ++ f (e ∷ []) → new ≡ f (take (i + 1) xs)
  walk_step old new xs i e low is h made = made ∙ ap (λ v. v ++ f (e ∷ [])) h ∙ sym (walk_more xs i e low is)

  -- onto what was there before
  pub walk_onto : (start old new : List B) (xs : List A) (i : ℕ) (e : A) → i < length xs → e ≡ get_or xs i e → old ≡ start ++ f (take i xs) → new ≡ old ++ f (e ∷ []) → new ≡ start ++ f (take (i + 1) xs)
  walk_onto start old new xs i e low is h made = made ∙ ap (λ v. v ++ f (e ∷ [])) h ∙ append_assoc start (f (take i xs)) (f (e ∷ [])) ∙ ap (λ v. start ++ v) (sym (walk_more xs i e low is))

-- a walk that came to the end
pub walked : {A B : Type 0} (f : List A → List B) (made kept : List B) (xs whole : List A) (i : ℕ) → made ≡ kept → kept ≡ f (take i xs) → length xs ≤ i → xs ≡ whole → made ≡ f whole
walked f made kept xs whole i is h low all = is ∙ h ∙ ap f (take_all i xs low ∙ all)
