-- A piece of text for each element of a list: how the pieces of some elements grow to the left, and how they join a text.
use Rattle.std.proofs.Common.{◌≡◌, ◌∙◌, ◌+◌, ◌≤◌, ℕ, List, ◌++◌, length, take, drop, sym, ap, arith, flat_map, Some, slice_get, append_assoc}
use Rattle.std.proofs.lemmas.List.{drop_more, get_or-take, length-take-le, take-append-drop, take-take}
use Rattle.std.proofs.lemmas.List.Concat.{flat_map-append}
use Rattle.std.proofs.lemmas.Option.{get_or_from_slice_get}

module _ {X : Type 0} (f : X → List ℕ) (xs : List X) where
  -- the pieces from a place up to another, with that of the element before them
  pub one_before : (i place upto : ℕ) (x : X) → place ≡ i + 1 → place ≤ upto → upto ≤ length xs → slice_get xs i ≡ Some x
      → f x ++ flat_map f (drop place (take upto xs)) ≡ flat_map f (drop i (take upto xs))
  one_before i place upto x next low high e =
      ap (λ (n : ℕ). f x ++ flat_map f (drop n (take upto xs))) next
      ∙ ap (λ y. f y ++ flat_map f (drop (i + 1) (take upto xs))) (sym (get_or-take upto xs i x (omega (arith, next, low)) ∙ get_or_from_slice_get xs i x x e))
      ∙ sym (ap (flat_map f) (drop_more (take upto xs) i x (omega (arith, next, low, length-take-le upto xs high))))

  -- the text with the pieces of some more elements
  pub grown : (done upto : ℕ) (first before after : List ℕ) → done ≤ upto
      → before ≡ first ++ flat_map f (take done xs) → after ≡ before ++ flat_map f (drop done (take upto xs)) → after ≡ first ++ flat_map f (take upto xs)
  grown done upto first before after le so_far more =
      more ∙ ap (λ (t : List ℕ). t ++ flat_map f (drop done (take upto xs))) so_far
      ∙ append_assoc first (flat_map f (take done xs)) (flat_map f (drop done (take upto xs)))
      ∙ ap (λ (t : List ℕ). first ++ t) (sym (flat_map-append f (take done xs) (drop done (take upto xs))))
      ∙ ap (λ ys. first ++ flat_map f (ys ++ drop done (take upto xs))) (sym (take-take done upto xs le))
      ∙ ap (λ ys. first ++ flat_map f ys) (take-append-drop done (take upto xs))
