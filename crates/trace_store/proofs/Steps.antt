-- One more entry of a list.
use Rattle.std.proofs.Common.{◌≡◌, ◌∙◌, ℕ, ◌+◌, ◌-◌, ◌<◌, ◌≤◌, Bool, true, false, List, [], ◌∷◌, ◌++◌, length, take, drop, get_or, map, Some, ap, sym, slice_get}
use Rattle.std.specs.Prelude.{if◌then◌else◌}
use Rattle.std.proofs.lemmas.List.{append-nil, take_more, map-append}
use Rattle.trace_store.proofs.Places.{between}
use Rattle.weighted.specs.WordLaws.{mapped, mapped-append}
use Rattle.weighted.specs.SumLaws.{filtered, filtered-append}

one_more : {A : Type 0} (xs : List A) (i : ℕ) (x : A) → i < length xs → x ≡ get_or xs i x → take (i + 1) xs ≡ take i xs ++ x ∷ []
one_more xs i x low is = take_more xs i x low ∙ ap (λ v. take i xs ++ v ∷ []) (sym is)

pub map_step : {A B : Type 0} (f : A → B) (xs : List A) (i : ℕ) (x : A) → i < length xs → x ≡ get_or xs i x → map f (take (i + 1) xs) ≡ map f (take i xs) ++ f x ∷ []
map_step f xs i x low is = ap (map f) (one_more xs i x low is) ∙ map-append f (take i xs) (x ∷ [])

pub mapped_step : {A B : Type 0} (f : A → B) (xs : List (A × ℕ)) (i : ℕ) (e : A × ℕ) → i < length xs → e ≡ get_or xs i e → mapped f (take (i + 1) xs) ≡ mapped f (take i xs) ++ (f e.0, e.1) ∷ []
mapped_step f xs i e low is = ap (mapped f) (one_more xs i e low is) ∙ mapped-append f (take i xs) (e ∷ [])

-- ---- of those from one place up to another

module _ {A B : Type 0} (f : A → B) (p : A → Bool) (xs : List (A × ℕ)) (start i : ℕ) (e : A × ℕ) (le : start ≤ i) (is : slice_get xs i ≡ Some e) where
  both_between : mapped f (filtered p (take (i + 1 - start) (drop start xs))) ≡ mapped f (filtered p (take (i - start) (drop start xs))) ++ mapped f (if p e.0 then e ∷ [] else [])
  both_between = ap (λ v. mapped f (filtered p v)) (between xs start i e le is) ∙ ap (mapped f) (filtered-append p (take (i - start) (drop start xs)) (e ∷ [])) ∙ mapped-append f (filtered p (take (i - start) (drop start xs))) (filtered p (e ∷ []))

  pub taken_between : p e.0 ≡ true → mapped f (filtered p (take (i + 1 - start) (drop start xs))) ≡ mapped f (filtered p (take (i - start) (drop start xs))) ++ (f e.0, e.1) ∷ []
  taken_between h = both_between ∙ ap (λ b. mapped f (filtered p (take (i - start) (drop start xs))) ++ mapped f (if b then e ∷ [] else [])) h

  pub passed_between : p e.0 ≡ false → mapped f (filtered p (take (i + 1 - start) (drop start xs))) ≡ mapped f (filtered p (take (i - start) (drop start xs)))
  passed_between h = both_between ∙ ap (λ b. mapped f (filtered p (take (i - start) (drop start xs))) ++ mapped f (if b then e ∷ [] else [])) h ∙ append-nil (mapped f (filtered p (take (i - start) (drop start xs))))

pub mapped_between : {A B : Type 0} (f : A → B) (xs : List (A × ℕ)) (start i : ℕ) (e : A × ℕ) → start ≤ i → slice_get xs i ≡ Some e → mapped f (take (i + 1 - start) (drop start xs)) ≡ mapped f (take (i - start) (drop start xs)) ++ (f e.0, e.1) ∷ []
mapped_between f xs start i e le is = ap (mapped f) (between xs start i e le is) ∙ mapped-append f (take (i - start) (drop start xs)) (e ∷ [])
