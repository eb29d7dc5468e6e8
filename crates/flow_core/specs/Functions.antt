-- The functions of the linear operators.
use Rattle.std.specs.Prelude.{◌≡◌, ℕ, Bool, List, [], ◌∷◌, ◌++◌, refl}
use Rattle.std.proofs.Common.{arith, ap}
use Rattle.weighted.specs.Alike.{Alike, Alike-is, Alike-mapped, Alike-append, Alike-swap}
use Rattle.weighted.specs.WordLaws.{total, mapped, mapped-append}
use Rattle.weighted.specs.SumLaws.{filtered, filtered-append, Alike-filtered}
use Rattle.flow_core.specs.declared.side.Side.{Side}
use Rattle.flow_core.specs.declared.side.Side.TheVariants.{Left, Right}
use Rattle.flow_core.specs.Sides.{lefts, rights}
use Rattle.flow_core.specs.Linear.{IsLinear}

-- the sum of both sides
abbrev pub side_sum : {A : Type 0} → List (Side A A × ℕ) → List (A × ℕ)
side_sum es = lefts es ++ rights es

-- ---- each is linear

pub mapped_linear : {A B : Type 0} (f : A → B) → IsLinear (mapped f)
mapped_linear f = record { nothing = refl; sum = λ xs ys. Alike-is (mapped-append f xs ys); respects = Alike-mapped f }

pub filtered_linear : {A : Type 0} (keeps : A → Bool) → IsLinear (filtered keeps)
filtered_linear keeps = record { nothing = refl; sum = λ xs ys. Alike-is (filtered-append keeps xs ys); respects = Alike-filtered keeps }

pub lefts-append : {A B : Type 0} (xs ys : List (Side A B × ℕ)) → lefts (xs ++ ys) ≡ lefts xs ++ lefts ys
lefts-append [] ys = refl
lefts-append ((Left a, w) ∷ xs) ys = ap (λ v. (a, w) ∷ v) (lefts-append xs ys)
lefts-append ((Right b, w) ∷ xs) ys = lefts-append xs ys

pub rights-append : {A B : Type 0} (xs ys : List (Side A B × ℕ)) → rights (xs ++ ys) ≡ rights xs ++ rights ys
rights-append [] ys = refl
rights-append ((Left a, w) ∷ xs) ys = rights-append xs ys
rights-append ((Right b, w) ∷ xs) ys = ap (λ v. (b, w) ∷ v) (rights-append xs ys)

-- a coefficient for each record on the left, and none on the right
abbrev on_left : {A B : Type 0} → (A → ℕ) → Side A B → ℕ
on_left g (Left a) = g a
on_left g (Right b) = 0

abbrev on_right : {A B : Type 0} → (B → ℕ) → Side A B → ℕ
on_right g (Left a) = 0
on_right g (Right b) = g b

total-lefts : {A B : Type 0} (g : A → ℕ) (es : List (Side A B × ℕ)) → total g (lefts es) ≡ total (on_left g) es
total-lefts g [] = refl
total-lefts g ((Left a, w) ∷ es) = omega (arith, total-lefts g es)
total-lefts g ((Right b, w) ∷ es) = omega (arith, total-lefts g es)

total-rights : {A B : Type 0} (g : B → ℕ) (es : List (Side A B × ℕ)) → total g (rights es) ≡ total (on_right g) es
total-rights g [] = refl
total-rights g ((Left a, w) ∷ es) = omega (arith, total-rights g es)
total-rights g ((Right b, w) ∷ es) = omega (arith, total-rights g es)

pub Alike-lefts : {A B : Type 0} (xs ys : List (Side A B × ℕ)) → Alike xs ys → Alike (lefts xs) (lefts ys)
Alike-lefts xs ys s = record { totals = λ g. rw (total-lefts g xs, total-lefts g ys) (s.totals (on_left g)) }

pub Alike-rights : {A B : Type 0} (xs ys : List (Side A B × ℕ)) → Alike xs ys → Alike (rights xs) (rights ys)
Alike-rights xs ys s = record { totals = λ g. rw (total-rights g xs, total-rights g ys) (s.totals (on_right g)) }

pub side_sum_linear : {A : Type 0} → IsLinear (side_sum {A = A})
side_sum_linear {A} = record {
  nothing = refl;
  sum = λ xs ys. rw (lefts-append xs ys, rights-append xs ys) (Alike-swap (lefts xs) (lefts ys) (rights xs) (rights ys));
  respects = λ xs ys s. Alike-append (Alike-lefts xs ys s) (Alike-rights xs ys s);
}
