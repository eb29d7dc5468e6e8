-- One more element of a list, and what it adds to a text.
use Rattle.std.proofs.Common.{◌≡◌, ◌∙◌, ◌+◌, ◌<◌, ℕ, List, [], ◌∷◌, ◌++◌, length, take, sym, ap, flat_map, Some, slice_get}
use Rattle.std.proofs.lemmas.List.{take_more, flat_map_more}
use Rattle.std.proofs.lemmas.Option.{get_or_from_slice_get}

pub one_more : {X : Type 0} (xs : List X) (i : ℕ) (x : X) → i < length xs → slice_get xs i ≡ Some x → take (i + 1) xs ≡ take i xs ++ x ∷ []
one_more xs i x lt e = take_more xs i x lt ∙ ap (λ y. take i xs ++ y ∷ []) (get_or_from_slice_get xs i x x e)

-- the text with the piece of one more element
pub grown : {X : Type 0} (f : X → List ℕ) (xs : List X) (i : ℕ) (x : X) (first before after : List ℕ) → i < length xs → slice_get xs i ≡ Some x
    → before ≡ first ++ flat_map f (take i xs) → after ≡ before ++ f x → after ≡ first ++ flat_map f (take (i + 1) xs)
grown f xs i x first before after lt e so_far more =
    more ∙ ap (λ (t : List ℕ). t ++ f x) so_far ∙ flat_map_more f first (take i xs) x ∙ ap (λ ys. first ++ flat_map f ys) (sym (one_more xs i x lt e))
