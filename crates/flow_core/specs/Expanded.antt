-- The function of an operator from one record to several.
use Rattle.std.specs.Prelude.{◌≡◌, ℕ, ◌+◌, ◌*◌, List, [], ◌∷◌, ◌++◌, map, refl}
use Rattle.std.proofs.Common.{arith, ap, sym, ◌∙◌, append_assoc, append-nil}
use Rattle.weighted.specs.Alike.{Alike, Alike-is, total-append}
use Rattle.weighted.specs.WordLaws.{total}
use Rattle.flow_core.specs.Linear.{IsLinear}

-- what is given for each record, each with the record's weight
abbrev pub expanded : {A B : Type 0} → (A → List B) → List (A × ℕ) → List (B × ℕ)
expanded f [] = []
expanded f (e ∷ es) = map (λ b. (b, e.1)) (f e.0) ++ expanded f es

module _ {A B : Type 0} (f : A → List B) where
  pub expanded-append : (xs ys : List (A × ℕ)) → expanded f (xs ++ ys) ≡ expanded f xs ++ expanded f ys
  expanded-append [] ys = refl
  expanded-append (e ∷ xs) ys = ap (λ v. map (λ b. (b, e.1)) (f e.0) ++ v) (expanded-append xs ys) ∙ sym (append_assoc (map (λ b. (b, e.1)) (f e.0)) (expanded f xs) (expanded f ys))

  pub expanded-one : (e : A × ℕ) → expanded f (e ∷ []) ≡ map (λ b. (b, e.1)) (f e.0)
  expanded-one e = append-nil (map (λ b. (b, e.1)) (f e.0))

  -- the sum of coefficients of records
  abbrev coefficients : (B → ℕ) → List B → ℕ
  coefficients g [] = 0
  coefficients g (b ∷ bs) = g b + coefficients g bs

  total-given : (g : B → ℕ) (w : ℕ) (bs : List B) → total g (map (λ b. (b, w)) bs) ≡ coefficients g bs * w
  total-given g w [] = omega arith
  total-given g w (b ∷ bs) = omega (arith, total-given g w bs)

  total-expanded : (g : B → ℕ) (es : List (A × ℕ)) → total g (expanded f es) ≡ total (λ a. coefficients g (f a)) es
  total-expanded g [] = refl
  total-expanded g (e ∷ es) = total-append g (map (λ b. (b, e.1)) (f e.0)) (expanded f es) ∙ ap (λ n. n + total g (expanded f es)) (total-given g e.1 (f e.0)) ∙ ap (λ n. coefficients g (f e.0) * e.1 + n) (total-expanded g es)

  Alike-expanded : (xs ys : List (A × ℕ)) → Alike xs ys → Alike (expanded f xs) (expanded f ys)
  Alike-expanded xs ys s = record { totals = λ g. rw (total-expanded g xs, total-expanded g ys) (s.totals (λ a. coefficients g (f a))) }

  pub expanded_linear : IsLinear (expanded f)
  expanded_linear = record { nothing = refl; sum = λ xs ys. Alike-is (expanded-append xs ys); respects = Alike-expanded }
