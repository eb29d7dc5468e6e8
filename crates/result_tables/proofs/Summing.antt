-- The count and the sum of values, one more value at a time.
use Rattle.std.proofs.Common.{◌≡◌, ◌∙◌, ◌+◌, ◌*◌, ◌<◌, ◌≤◌, ℕ, ℤ, pos, neg_ℤ, ◌+ℤ◌, ◌≤ℤ◌, List, [], ◌∷◌, ◌++◌, length, take, get_or, ap, arith}
use Rattle.std.proofs.lemmas.Int.{ints}
use Rattle.std.proofs.lemmas.List.{take_more}
use Rattle.graph_model.specs.declared.value.Val.{Val}
use Rattle.graph_model.specs.declared.value.Val.TheVariants.{Nil, Num}
use Rattle.result_tables.specs.TableText.{count_one, number_of, sum_values}

sum-append : (xs : List Val) (v : Val) → sum_values (xs ++ v ∷ []) ≡ sum_values xs +ℤ number_of v
sum-append [] v = omega (arith, ints)
sum-append (x ∷ xs) v = omega (arith, ints, sum-append xs v)

pub sum_more : (values : List Val) (i : ℕ) (d : Val) → i < length values → sum_values (take (i + 1) values) ≡ sum_values (take i values) +ℤ number_of (get_or values i d)
sum_more values i d lt = ap sum_values (take_more values i d lt) ∙ sum-append (take i values) (get_or values i d)

-- ---- the bounds

one_at_most : (v : Val) → count_one v ≤ 1
one_at_most Nil = omega arith
one_at_most (Num z) = omega arith

pub one_few : (n m i : ℕ) (v : Val) → m ≡ n + count_one v → n ≤ i → m ≤ i + 1
one_few n m i v e le = omega (arith, e, le, one_at_most v)

pub one_low : (s t z : ℤ) (i : ℕ) → t ≡ s +ℤ z → neg_ℤ (pos 9_223_372_036_854_775_808) ≤ℤ z → neg_ℤ (pos (i * 9_223_372_036_854_775_808)) ≤ℤ s → neg_ℤ (pos ((i + 1) * 9_223_372_036_854_775_808)) ≤ℤ t
one_low s t z i e h k = omega (arith, ints, e, h, k)

pub one_high : (s t z : ℤ) (i : ℕ) → t ≡ s +ℤ z → z ≤ℤ pos 9_223_372_036_854_775_808 → s ≤ℤ pos (i * 9_223_372_036_854_775_808) → t ≤ℤ pos ((i + 1) * 9_223_372_036_854_775_808)
one_high s t z i e h k = omega (arith, ints, e, h, k)
