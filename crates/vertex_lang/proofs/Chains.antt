-- The first value that is not none, one member after the other.
use Rattle.std.proofs.Common.{◌≡◌, ◌∙◌, ◌+◌, ◌<◌, ◌++◌, ◌∷◌, [], ℕ, true, false, List, length, get_or, take, map, ap, sym, refl}
use Rattle.std.proofs.lemmas.List.{take_more, map-append}
use Rattle.graph_model.specs.declared.value.Val.{Val}
use Rattle.graph_model.specs.declared.value.Val.TheVariants.{Nil, Num}
use Rattle.vertex_lang.specs.Values.{first_given, is_nil}

abbrev or_else : Val → Val → Val
or_else Nil y = y
or_else (Num a) y = Num a

one_given : (v : Val) → first_given (v ∷ []) ≡ v
one_given Nil = refl
one_given (Num a) = refl

given-append : (vs : List Val) (v : Val) → first_given (vs ++ v ∷ []) ≡ or_else (first_given vs) v
given-append [] v = one_given v
given-append (Nil ∷ vs) v = given-append vs v
given-append (Num a ∷ vs) v = refl

or_else_nil : (v w : Val) → is_nil v ≡ true → or_else v w ≡ w
or_else_nil Nil w e = refl
or_else_nil (Num a) w e = absurd cc

or_else_given : (v w : Val) → is_nil v ≡ false → or_else v w ≡ v
or_else_given Nil w e = absurd cc
or_else_given (Num a) w e = refl

module _ {X : Type 0} (f : X → Val) (xs : List X) (i : ℕ) (d : X) (v : Val) (low : i < length xs) (so_far : v ≡ first_given (map f (take i xs))) where
  more : first_given (map f (take (i + 1) xs)) ≡ or_else v (f (get_or xs i d))
  more =
      ap (λ (ys : List X). first_given (map f ys)) (take_more xs i d low)
      ∙ ap first_given (map-append f (take i xs) (get_or xs i d ∷ []))
      ∙ given-append (map f (take i xs)) (f (get_or xs i d))
      ∙ ap (λ (w : Val). or_else w (f (get_or xs i d))) (sym so_far)

  -- nothing was given before
  pub given_here : is_nil v ≡ true → f (get_or xs i d) ≡ first_given (map f (take (i + 1) xs))
  given_here e = sym (more ∙ or_else_nil v (f (get_or xs i d)) e)

  -- something was
  pub given_before : is_nil v ≡ false → v ≡ first_given (map f (take (i + 1) xs))
  given_before e = sym (more ∙ or_else_given v (f (get_or xs i d)) e)
