-- Collections: lists of records and weights, up to the sum of each record's weights modulo 2^64.
use Rattle.std.specs.Prelude.{◌≡◌, ℕ, ◌+◌, ◌-◌, ◌%◌, ◌^◌, List, [], ◌∷◌, if◌then◌else◌}
use Rattle.std.specs.declared.cmp.Ordering.{Ordering}
use Rattle.std.specs.Ordering.{is_eq}

-- the negative of a weight
abbrev pub minus : ℕ → ℕ
minus n = (2 ^ 64 - n % 2 ^ 64) % 2 ^ 64

-- the weights of a record, added up
abbrev pub sum_at : {R : Type 0} → (R → R → Ordering) → List (R × ℕ) → R → ℕ
sum_at cmp [] x = 0
sum_at cmp (e ∷ es) x = (if is_eq (cmp e.0 x) then e.1 else 0) + sum_at cmp es x

-- the word of a record: that sum modulo 2^64
abbrev pub word : {R : Type 0} → (R → R → Ordering) → List (R × ℕ) → R → ℕ
word cmp es x = sum_at cmp es x % 2 ^ 64

-- two lists are one collection
pub record Same {R : Type 0} (cmp : R → R → Ordering) (xs ys : List (R × ℕ)) : Type 0 where
  pub words : (x : R) → word cmp xs x ≡ word cmp ys x
