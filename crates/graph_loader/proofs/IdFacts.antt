-- The ids of a graph's nodes are distinct.
use Rattle.std.proofs.Common.{◌≡◌, ◌∙◌, refl, ap, ℕ, zero, suc, ◌<◌, Bool, true, false, ◌||◌, List, [], ◌∷◌, length, get_or, take, Some, arith}
use Rattle.std.specs.Prelude.{nat_eq, slice_get}
use Rattle.std.specs.List.{list_any}
use Rattle.std.proofs.lemmas.Bool.Decides.{nat_tests}
use Rattle.graph_model.specs.GraphData.{AreDistinct}

-- where one of these passes a test
Passes : (ℕ → Bool) → List ℕ → Type 0
Passes test xs = (i : ℕ) × (x : ℕ) × (slice_get xs i ≡ Some x) × (test x ≡ true)

any-at : (test : ℕ → Bool) (xs : List ℕ) → list_any test xs ≡ true → Passes test xs
unfolding Passes
any-at test [] e = absurd (cc)
any-at test (y ∷ xs) e = cases (test y) refl (any-at test xs) e where
  cases : (t : Bool) → test y ≡ t → (list_any test xs ≡ true → Passes test xs) → (t || list_any test xs) ≡ true → Passes test (y ∷ xs)
  cases true p more e = (0, y, refl, p)
  cases false p more e = let at = more e in (suc at.0, at.1, at.2, at.3)

among-first : (xs : List ℕ) (n i x : ℕ) → slice_get (take n xs) i ≡ Some x → (i < n) × (slice_get xs i ≡ Some x)
among-first xs zero i x e = absurd (cc)
among-first [] (suc n) i x e = absurd (cc)
among-first (y ∷ xs) (suc n) zero x e = (omega arith, e)
among-first (y ∷ xs) (suc n) (suc i) x e = let more = among-first xs n i x e in (omega (arith, more.0), more.1)

there : (xs : List ℕ) (n : ℕ) → n < length xs → slice_get xs n ≡ Some (get_or xs n 0)
there [] n lt = absurd (omega arith)
there (x ∷ xs) zero lt = refl
there (x ∷ xs) (suc n) lt = there xs n (omega arith)

-- no id is that of an earlier node
pub new-among : (ids : List ℕ) (n : ℕ) → AreDistinct ids → n < length ids → list_any (nat_eq (get_or ids n 0)) (take n ids) ≡ false
unfolding Passes
new-among ids n distinct lt = cases (list_any (nat_eq (get_or ids n 0)) (take n ids)) refl where
  cases : (t : Bool) → list_any (nat_eq (get_or ids n 0)) (take n ids) ≡ t → t ≡ false
  cases false p = refl
  cases true p =
      let at = any-at (nat_eq (get_or ids n 0)) (take n ids) p in
      let earlier = among-first ids n at.0 at.1 at.2 in
      let same : get_or ids n 0 ≡ at.1 = grind (arith, nat_tests, at.3) in
      let one : at.0 ≡ n = distinct at.0 n at.1 earlier.1 (there ids n lt ∙ ap (λ x. Some x) same) in
      absurd (omega (arith, earlier.0, one))
