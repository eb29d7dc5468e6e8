-- A normal form is no longer than what it was made of.
use Rattle.std.proofs.Common.{◌≡◌, ◌∙◌, ℕ, suc, ◌+◌, ◌%◌, ◌^◌, ◌≤◌, ◌==◌, Bool, true, false, List, [], ◌∷◌, length, Ordering, refl, ap, arith}
use Rattle.std.specs.Prelude.{if◌then◌else◌}
use Rattle.std.specs.declared.cmp.Ordering.TheVariants.{Less, Equal, Greater}
use Rattle.weighted.specs.WordLaws.{mapped}
use Rattle.weighted.specs.Normal.{merged, normal, put, put_by, trimmed}

pub length-mapped : {A B : Type 0} (f : A → B) (es : List (A × ℕ)) → length (mapped f es) ≡ length es
length-mapped f [] = refl
length-mapped f (e ∷ es) = ap suc (length-mapped f es)

module _ {R : Type 0} (cmp : R → R → Ordering) where
  put_length_by : (x : R) (w : ℕ) (e : R × ℕ) (es : List (R × ℕ)) (o : Ordering) → length (put cmp x w es) ≤ length es + 1 → length (put_by o x w e es (put cmp x w es)) ≤ length es + 2
  put_length_by x w e es Less h = omega arith
  put_length_by x w e es Equal h = omega arith
  put_length_by x w e es Greater h = omega (arith, h)

  put_length : (x : R) (w : ℕ) (es : List (R × ℕ)) → length (put cmp x w es) ≤ length es + 1
  put_length x w [] = omega arith
  put_length x w (e ∷ es) = omega (arith, put_length_by x w e es (cmp x e.0) (put_length x w es))

  merged_length : (es : List (R × ℕ)) → length (merged cmp es) ≤ length es
  merged_length [] = omega arith
  merged_length (e ∷ es) = omega (arith, put_length e.0 e.1 (merged cmp es), merged_length es)

  trimmed_length_by : (e : R × ℕ) (es : List (R × ℕ)) (b : Bool) → length (trimmed es) ≤ length es → length (if b then trimmed es else (e.0, e.1 % 2 ^ 64) ∷ trimmed es) ≤ length es + 1
  trimmed_length_by e es true h = omega (arith, h)
  trimmed_length_by e es false h = omega (arith, h)

  trimmed_length : (es : List (R × ℕ)) → length (trimmed es) ≤ length es
  trimmed_length [] = omega arith
  trimmed_length (e ∷ es) = omega (arith, trimmed_length_by e es (e.1 % 2 ^ 64 == 0) (trimmed_length es))

  pub length-normal : (es : List (R × ℕ)) → length (normal cmp es) ≤ length es
  length-normal es = omega (arith, trimmed_length (merged cmp es), merged_length es)
