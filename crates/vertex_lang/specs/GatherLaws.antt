-- What is gathered of messages, and how many they are, depends on their multiset alone; and what the least and the greatest are.
use Rattle.std.specs.Prelude.{◌≡◌, ℕ, ◌+◌, ℤ, pos, ◌+ℤ◌, true, List, [], ◌∷◌, length, fold, refl}
use Rattle.std.specs.Int.{int_min, int_max}
use Rattle.std.specs.List.Sorted.{IsPermutation}
use Rattle.std.proofs.Common.{arith, ap, sym, ◌∙◌}
use Rattle.std.proofs.lemmas.Bool.{false≢true}
use Rattle.std.proofs.lemmas.Bool.Decides.{Decides-int_eq}
use Rattle.std.proofs.lemmas.Int.{ints, int_min_is, int_max_is}
use Rattle.graph_model.specs.declared.value.Val.{Val}
use Rattle.graph_model.specs.declared.value.Val.TheVariants.{Nil, Num}
use Rattle.multisets.specs.Multisets.{IsExact, AreOne}
use Rattle.multisets.specs.FoldLaws.{fold-one}
use Rattle.multisets.specs.OrderLaws.{permuted-one}
use Rattle.vertex_lang.specs.declared.program.Gather.{Gather}
use Rattle.vertex_lang.specs.declared.program.Gather.TheVariants as gather
use Rattle.vertex_lang.specs.Values.{lesser, greater, clamped}
use Rattle.vertex_lang.specs.Arcs.{amount, total, gathered_of}
use Rattle.vertex_lang.specs.Lone.{same_value}

-- ---- the test of values

value-itself : (x : Val) → same_value x x ≡ true
value-itself Nil = refl
value-itself (Num a) = (Decides-int_eq a a).1 refl

value-one : (x y : Val) → same_value x y ≡ true → x ≡ y
value-one Nil Nil e = refl
value-one Nil (Num b) e = absurd (false≢true e)
value-one (Num a) Nil e = absurd (false≢true e)
value-one (Num a) (Num b) e = ap (λ (z : ℤ). Num z) ((Decides-int_eq a b).0 e)

pub values-exact : IsExact same_value
values-exact = record { itself = value-itself; one = value-one }

-- ---- the lesser and the greater of values, in any order

min-comm : (x y : ℤ) → int_min x y ≡ int_min y x
min-comm x y = omega (arith, ints, int_min_is x y, int_min_is y x)

max-comm : (x y : ℤ) → int_max x y ≡ int_max y x
max-comm x y = omega (arith, ints, int_max_is x y, int_max_is y x)

min-assoc : (x y z : ℤ) → int_min (int_min x y) z ≡ int_min x (int_min y z)
min-assoc x y z = omega (arith, ints, int_min_is (int_min x y) z, int_min_is x y, int_min_is x (int_min y z), int_min_is y z)

max-assoc : (x y z : ℤ) → int_max (int_max x y) z ≡ int_max x (int_max y z)
max-assoc x y z = omega (arith, ints, int_max_is (int_max x y) z, int_max_is x y, int_max_is x (int_max y z), int_max_is y z)

pub lesser-comm : (x y : Val) → lesser x y ≡ lesser y x
lesser-comm Nil Nil = refl
lesser-comm Nil (Num b) = refl
lesser-comm (Num a) Nil = refl
lesser-comm (Num a) (Num b) = ap (λ (z : ℤ). Num z) (min-comm a b)

pub lesser-assoc : (x y z : Val) → lesser (lesser x y) z ≡ lesser x (lesser y z)
lesser-assoc Nil y z = refl
lesser-assoc (Num a) Nil z = refl
lesser-assoc (Num a) (Num b) Nil = refl
lesser-assoc (Num a) (Num b) (Num c) = ap (λ (z : ℤ). Num z) (min-assoc a b c)

pub lesser-swaps : (v x y : Val) → lesser (lesser v x) y ≡ lesser (lesser v y) x
lesser-swaps v x y = lesser-assoc v x y ∙ ap (lesser v) (lesser-comm x y) ∙ sym (lesser-assoc v y x)

pub greater-comm : (x y : Val) → greater x y ≡ greater y x
greater-comm Nil Nil = refl
greater-comm Nil (Num b) = refl
greater-comm (Num a) Nil = refl
greater-comm (Num a) (Num b) = ap (λ (z : ℤ). Num z) (max-comm a b)

pub greater-assoc : (x y z : Val) → greater (greater x y) z ≡ greater x (greater y z)
greater-assoc Nil y z = refl
greater-assoc (Num a) Nil z = refl
greater-assoc (Num a) (Num b) Nil = refl
greater-assoc (Num a) (Num b) (Num c) = ap (λ (z : ℤ). Num z) (max-assoc a b c)

pub greater-swaps : (v x y : Val) → greater (greater v x) y ≡ greater (greater v y) x
greater-swaps v x y = greater-assoc v x y ∙ ap (greater v) (greater-comm x y) ∙ sym (greater-assoc v y x)

-- ---- the order of messages doesn't matter

sum-swaps : (s : ℤ) (x y : Val) → (s +ℤ amount x) +ℤ amount y ≡ (s +ℤ amount y) +ℤ amount x
sum-swaps s x y = omega (arith, ints)

-- the length as a fold
length-fold : {A : Type 0} (n : ℕ) (xs : List A) → fold (λ (k : ℕ) (x : A). k + 1) n xs ≡ n + length xs
length-fold n [] = omega arith
length-fold n (x ∷ xs) = length-fold (n + 1) xs ∙ omega arith

pub length-one : (ms ns : List Val) → AreOne same_value ms ns → length ms ≡ length ns
length-one ms ns s = omega (arith, fold-one same_value values-exact (λ (k : ℕ) (x : Val). k + 1) (λ k x y. refl) 0 ms ns s, length-fold 0 ms, length-fold 0 ns)

total-one : (ms ns : List Val) → AreOne same_value ms ns → total ms ≡ total ns
total-one ms ns s = fold-one same_value values-exact (λ (sum : ℤ) (m : Val). sum +ℤ amount m) sum-swaps (pos 0) ms ns s

pub gathered-one : (kind : Gather) (ms ns : List Val) → AreOne same_value ms ns → gathered_of kind ms ≡ gathered_of kind ns
gathered-one gather.Min ms ns s = fold-one same_value values-exact lesser lesser-swaps Nil ms ns s
gathered-one gather.Max ms ns s = fold-one same_value values-exact greater greater-swaps Nil ms ns s
gathered-one gather.Sum ms ns s = ap (λ (z : ℤ). Num (clamped z)) (total-one ms ns s)
gathered-one gather.Count ms ns s = ap (λ (n : ℕ). Num (pos n)) (length-one ms ns s)

pub permuted-messages : (kind : Gather) (ms ns : List Val) → IsPermutation ms ns → (gathered_of kind ms ≡ gathered_of kind ns) × (length ms ≡ length ns)
permuted-messages kind ms ns s = (gathered-one kind ms ns (permuted-one same_value ms ns s), length-one ms ns (permuted-one same_value ms ns s))
