-- The ids of the nodes in the order of a table rise strictly, where they are distinct.
use Rattle.std.proofs.Common.{◌≡◌, ◌≢◌, ◌∙◌, sym, ap, refl, ℕ, zero, suc, ◌+◌, ◌<◌, ◌≤◌, Bool, true, false, cond, List, [], ◌∷◌, length, get_or, Some, arith}
use Rattle.std.specs.Prelude.{map, nat_le, slice_get}
use Rattle.std.proofs.lemmas.Bool.Decides.{nat_tests}
use Rattle.std.proofs.lemmas.List.{length-map}
use Rattle.graph_model.specs.GraphData.{GraphData, id_of, node, insert_by_id, sorted_by_id, numbered, nodes_by_id, AreDistinct}

abbrev Pair : Type 0
Pair = ℕ × ℕ

abbrev Each : (Pair → Type 0) → List Pair → Type 0
Each P [] = Unit {0}
Each P (x ∷ xs) = P x × Each P xs

-- each pair has a smaller id than those behind it
abbrev Strict : List Pair → Type 0
Strict [] = Unit {0}
Strict (x ∷ xs) = Each (λ y. x.0 < y.0) xs × Strict xs

-- ---- insertion

each_insert : (P : Pair → Type 0) (x : Pair) (ys : List Pair) → P x → Each P ys → Each P (insert_by_id x ys)
each_insert P x [] h hs = (h, tt)
each_insert P x (y ∷ ys) h hs = cases (nat_le x.0 y.0) (each_insert P x ys h hs.1) where
  cases : (b : Bool) → Each P (insert_by_id x ys) → Each P (cond b (x ∷ (y ∷ ys)) (y ∷ insert_by_id x ys))
  cases true more = (h, hs)
  cases false more = (hs.0, more)

each_sorted : (P : Pair → Type 0) (xs : List Pair) → Each P xs → Each P (sorted_by_id xs)
each_sorted P [] h = tt
each_sorted P (x ∷ xs) h = each_insert P x (sorted_by_id xs) h.0 (each_sorted P xs h.1)

each_get : (P : Pair → Type 0) (xs : List Pair) (i : ℕ) (d : Pair) → i < length xs → Each P xs → P (get_or xs i d)
each_get P [] i d lt h = absurd (omega arith)
each_get P (x ∷ xs) zero d lt h = h.0
each_get P (x ∷ xs) (suc i) d lt h = each_get P xs i d (omega arith) h.1

length_insert : (x : Pair) (ys : List Pair) → length (insert_by_id x ys) ≡ suc (length ys)
length_insert x [] = refl
length_insert x (y ∷ ys) = cases (nat_le x.0 y.0) (length_insert x ys) where
  cases : (b : Bool) → length (insert_by_id x ys) ≡ suc (length ys) → length (cond b (x ∷ (y ∷ ys)) (y ∷ insert_by_id x ys)) ≡ suc (suc (length ys))
  cases true e = refl
  cases false e = ap suc e

length_sorted : (xs : List Pair) → length (sorted_by_id xs) ≡ length xs
length_sorted [] = refl
length_sorted (x ∷ xs) = length_insert x (sorted_by_id xs) ∙ ap suc (length_sorted xs)

above : (x y : Pair) (zs : List Pair) → x.0 < y.0 → Each (λ z. y.0 < z.0) zs → Each (λ z. x.0 < z.0) zs
above x y [] lt h = tt
above x y (z ∷ zs) lt h = (omega arith, above x y zs lt h.1)

strict_insert : (x : Pair) (ys : List Pair) → Each (λ y. x.0 ≢ y.0) ys → Strict ys → Strict (insert_by_id x ys)
strict_insert x [] new h = (tt, tt)
strict_insert x (y ∷ ys) new h = cases (nat_le x.0 y.0) refl (strict_insert x ys new.1 h.1) where
  cases : (b : Bool) → nat_le x.0 y.0 ≡ b → Strict (insert_by_id x ys) → Strict (cond b (x ∷ (y ∷ ys)) (y ∷ insert_by_id x ys))
  cases true e more =
      let le : x.0 ≤ y.0 = grind (arith, nat_tests) in
      let ne = new.0 in
      let lt : x.0 < y.0 = omega arith in
      ((lt, above x y ys lt h.0), h)
  cases false e more = (each_insert (λ z. y.0 < z.0) x ys (grind (arith, nat_tests)) h.0, more)

-- ---- numbered ids

new_among : (id n : ℕ) (ids : List ℕ) → ((j : ℕ) → slice_get ids j ≡ Some id → ⊥) → Each (λ y. id ≢ y.0) (numbered n ids)
new_among id n [] h = tt
new_among id n (x ∷ xs) h = (λ e. h 0 (ap (λ (k : ℕ). Some k) (sym e)), new_among id (n + 1) xs (λ j. h (suc j)))

distinct_tail : (id : ℕ) (ids : List ℕ) → AreDistinct (id ∷ ids) → AreDistinct ids
distinct_tail id ids h = λ i j x a b. let same : suc i ≡ suc j = h (suc i) (suc j) x a b in omega arith

strict_sorted : (n : ℕ) (ids : List ℕ) → AreDistinct ids → Strict (sorted_by_id (numbered n ids))
strict_sorted n [] h = tt
strict_sorted n (id ∷ ids) h =
    strict_insert (id, n) (sorted_by_id (numbered (n + 1) ids))
    (each_sorted (λ y. id ≢ y.0) (numbered (n + 1) ids) (new_among id (n + 1) ids (λ j e. let same : 0 ≡ suc j = h 0 (suc j) id refl e in absurd (omega arith))))
    (strict_sorted (n + 1) ids (distinct_tail id ids h))

strict_at : (xs : List Pair) (i j : ℕ) (d : Pair) → Strict xs → i < j → j < length xs → (get_or xs i d).0 < (get_or xs j d).0
strict_at [] i j d h lt within = absurd (omega arith)
strict_at (x ∷ xs) i zero d h lt within = absurd (omega arith)
strict_at (x ∷ xs) zero (suc j) d h lt within = each_get (λ y. x.0 < y.0) xs j d (omega arith) h.0
strict_at (x ∷ xs) (suc i) (suc j) d h lt within = strict_at xs i j d h.1 (omega arith) (omega arith)

ids_numbered : (whole : List ℕ) (n : ℕ) (ids : List ℕ) → ((k : ℕ) → k < length ids → get_or whole (n + k) 0 ≡ get_or ids k 0) → Each (λ x. get_or whole x.1 0 ≡ x.0) (numbered n ids)
ids_numbered whole n [] h = tt
ids_numbered whole n (id ∷ ids) h = (
  let first : get_or whole (n + 0) 0 ≡ id = h 0 (omega arith) in ap (λ k. get_or whole k 0) (omega arith) ∙ first,
  ids_numbered whole (n + 1) ids (λ k lt. let next : get_or whole (n + suc k) 0 ≡ get_or ids k 0 = h (suc k) (omega arith) in ap (λ m. get_or whole m 0) (omega arith) ∙ next),
)

nodes_get : (xs : List Pair) (i : ℕ) → (get_or (map (λ p. node p.1) xs) i (node 0)).0 ≡ (get_or xs i (0, 0)).1
nodes_get [] i = refl
nodes_get (x ∷ xs) zero = refl
nodes_get (x ∷ xs) (suc i) = nodes_get xs i

-- ---- the order of a table

-- the id of the node at a place of the order by id
abbrev pub id_at : GraphData → ℕ → ℕ
id_at g i = id_of g (get_or (nodes_by_id g.ids) i (node 0)).0

length_order : (ids : List ℕ) → length (nodes_by_id ids) ≡ length (sorted_by_id (numbered 0 ids))
length_order ids = length-map (sorted_by_id (numbered 0 ids)) (λ p. node p.1)

along : (ids : List ℕ) (i : ℕ) → i < length (sorted_by_id (numbered 0 ids)) → get_or ids (get_or (nodes_by_id ids) i (node 0)).0 0 ≡ (get_or (sorted_by_id (numbered 0 ids)) i (0, 0)).0
along ids i lt =
    let all = each_sorted (λ x. get_or ids x.1 0 ≡ x.0) (numbered 0 ids) (ids_numbered ids 0 ids (λ k lt. ap (λ m. get_or ids m 0) (omega arith))) in
    ap (λ m. get_or ids m 0) (nodes_get (sorted_by_id (numbered 0 ids)) i) ∙ each_get (λ x. get_or ids x.1 0 ≡ x.0) (sorted_by_id (numbered 0 ids)) i (0, 0) lt all

-- a table's ids rise strictly
pub at_places : (g : GraphData) (i j : ℕ) → AreDistinct g.ids → i < j → j < length (nodes_by_id g.ids) → id_at g i < id_at g j
at_places g i j h lt within =
    let here : j < length (sorted_by_id (numbered 0 g.ids)) = omega (arith, length_order g.ids, within) in
    let low = along g.ids i (omega (arith, lt, here)) in
    let high = along g.ids j here in
    let rise = strict_at (sorted_by_id (numbered 0 g.ids)) i j (0, 0) (strict_sorted 0 g.ids h) lt here in
    omega (arith, low, high, rise)
