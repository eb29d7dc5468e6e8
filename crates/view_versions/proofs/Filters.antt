-- What a test keeps of the lists that a list is made of.
use Rattle.std.proofs.Common.{◌≡◌, ◌∙◌, Bool, true, false, cond, List, [], ◌∷◌, ◌++◌, filter, sym, ap, refl}
use Rattle.std.specs.Prelude.{flat_map}
use Rattle.std.proofs.lemmas.List.Concat.{flat_map-cons}
use Rattle.std.proofs.lemmas.List.Elements.{filter-append}

-- ---- of each part all or nothing

module _ {A B : Type 0} (f : A → List B) (p : A → Bool) (q : B → Bool) (each : (x : A) → filter q (f x) ≡ cond (p x) (f x) []) where
  parts-by : (b : Bool) (x : A) (xs : List A) → cond b (f x) [] ++ flat_map f xs ≡ flat_map f (cond b (x ∷ xs) xs)
  parts-by true x xs = sym (flat_map-cons f x xs)
  parts-by false x xs = refl

  pub filter-parts : (xs : List A) → filter q (flat_map f xs) ≡ flat_map f (filter p xs)
  filter-parts [] = refl
  filter-parts (x ∷ xs) =
      ap (λ ys. filter q ys) (flat_map-cons f x xs)
      ∙ filter-append q (f x) (flat_map f xs)
      ∙ ap (λ ys. ys ++ filter q (flat_map f xs)) (each x)
      ∙ ap (λ ys. cond (p x) (f x) [] ++ ys) (filter-parts xs)
      ∙ parts-by (p x) x (filter p xs)
