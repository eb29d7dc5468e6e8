-- The two sides of a collection.
use Rattle.std.specs.Prelude.{◌≡◌, ℕ, List, [], ◌∷◌}
use Rattle.std.specs.declared.cmp.Ordering.{Ordering}
use Rattle.std.specs.declared.cmp.Ordering.TheVariants.{Less, Equal, Greater}
use Rattle.std.proofs.Common.{ap, sym, ◌∙◌}
use Rattle.flow_core.specs.declared.side.Side.{Side}
use Rattle.flow_core.specs.declared.side.Side.TheVariants.{Left, Right}

-- the records on the left
abbrev pub lefts : {A B : Type 0} → List (Side A B × ℕ) → List (A × ℕ)
lefts [] = []
lefts ((Left a, w) ∷ es) = (a, w) ∷ lefts es
lefts ((Right b, w) ∷ es) = lefts es

-- the records on the right
abbrev pub rights : {A B : Type 0} → List (Side A B × ℕ) → List (B × ℕ)
rights [] = []
rights ((Left a, w) ∷ es) = rights es
rights ((Right b, w) ∷ es) = (b, w) ∷ rights es

-- two sides that compare as equal are one value
pub sides_same : {A B : Type 0} (cmp : Side A B → Side A B → Ordering) (first : A → A → Ordering) (second : B → B → Ordering) → ((a b : A) → cmp (Left a) (Left b) ≡ first a b) → ((a : A) (b : B) → cmp (Left a) (Right b) ≡ Less) → ((a : B) (b : A) → cmp (Right a) (Left b) ≡ Greater) → ((a b : B) → cmp (Right a) (Right b) ≡ second a b) → ((x y : A) → first x y ≡ Equal → x ≡ y) → ((x y : B) → second x y ≡ Equal → x ≡ y) → (x y : Side A B) → cmp x y ≡ Equal → x ≡ y
sides_same cmp first second ll lr rl rr f g (Left a) (Left b) e = ap Left (f a b (sym (ll a b) ∙ e))
sides_same cmp first second ll lr rl rr f g (Left a) (Right b) e = let h : Less ≡ Equal = sym (lr a b) ∙ e in absurd (cc)
sides_same cmp first second ll lr rl rr f g (Right a) (Left b) e = let h : Greater ≡ Equal = sym (rl a b) ∙ e in absurd (cc)
sides_same cmp first second ll lr rl rr f g (Right a) (Right b) e = ap Right (g a b (sym (rr a b) ∙ e))
