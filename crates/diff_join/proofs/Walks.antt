-- One more entry of a walk along a list.
use Rattle.std.proofs.Common.{◌≡◌, ◌∙◌, ℕ, ◌+◌, ◌<◌, ◌≤◌, List, [], ◌∷◌, ◌++◌, length, take, get_or, append_assoc, ap, sym}
use Rattle.std.proofs.lemmas.List.{take_more, take_all}

module _ {A B : Type 0} (f : List A → List B) (more : (xs ys : List A) → f (xs ++ ys) ≡ f xs ++ f ys) where
  walk_more : (xs : List A) (i : ℕ) (e : A) → i < length xs → e ≡ get_or xs i e → f (take (i + 1) xs) ≡ f (take i xs) ++ f (e ∷ [])
  walk_more xs i e low is = ap f (take_more xs i e low) ∙ more (take i xs) (get_or xs i e ∷ []) ∙ ap (λ v. f (take i xs) ++ f (v ∷ [])) (sym is)

  pub walk_onto : (start old new : List B) (xs : List A) (i : ℕ) (e : A) → i < length xs → e ≡ get_or xs i e → old ≡ start ++ f (take i xs) → new ≡ old ++ f (e ∷ []) → new ≡ start ++ f (take (i + 1) xs)
  walk_onto start old new xs i e low is h made = made ∙ ap (λ v. v ++ f (e ∷ [])) h ∙ append_assoc start (f (take i xs)) (f (e ∷ [])) ∙ ap (λ v. start ++ v) (sym (walk_more xs i e low is))

-- a walk that came to the end
pub walked_onto : {A B : Type 0} (f : List A → List B) (start old : List B) (xs whole : List A) (i : ℕ) → old ≡ start ++ f (take i xs) → length xs ≤ i → xs ≡ whole → old ≡ start ++ f whole
walked_onto f start old xs whole i h low is = h ∙ ap (λ v. start ++ f v) (take_all i xs low ∙ is)
