-- Sums of many collections in any order, and parts and products of collections.
use Rattle.std.specs.Prelude.{◌≡◌, ℕ, ◌+◌, ◌*◌, ◌%◌, ◌^◌, ◌<◌, Bool, true, false, List, [], ◌∷◌, ◌++◌, length, map, if◌then◌else◌, refl}
use Rattle.std.specs.List.{sum_by}
use Rattle.std.specs.List.Sorted.{IsPermutation}
use Rattle.std.proofs.Common.{arith, ap, sym, ◌∙◌, take, get_or, append_assoc}
use Rattle.std.proofs.lemmas.List.{take_more, append-nil}
use Rattle.std.proofs.lemmas.List.Sums.{sum_by-cons}
use Rattle.std.proofs.lemmas.List.Sorted.{sum_by-IsPermutation}
use Rattle.weighted.specs.WordLaws.{total, cong_add, cong_mul, mapped, mapped-append}
use Rattle.weighted.specs.Alike.{Alike, Alike-refl, Alike-append, total-append}
use Rattle.weighted.specs.Batches.{joined}

-- ---- the order of entries, and of collections, doesn't matter

total-is_sum_by : {R : Type 0} (g : R → ℕ) (es : List (R × ℕ)) → total g es ≡ sum_by (λ e. g e.0 * e.1) es
total-is_sum_by g [] = refl
total-is_sum_by g (e ∷ es) = ap (λ v. g e.0 * e.1 + v) (total-is_sum_by g es) ∙ sym (sum_by-cons (λ e. g e.0 * e.1) e es)

pub Alike-permutation : {R : Type 0} (xs ys : List (R × ℕ)) → IsPermutation xs ys → Alike ys xs
Alike-permutation xs ys p = record { totals = λ g. ap (λ v. v % 2 ^ 64) (total-is_sum_by g ys ∙ sum_by-IsPermutation (λ e. g e.0 * e.1) xs ys p ∙ sym (total-is_sum_by g xs)) }

pub Alike-comm : {R : Type 0} (xs ys : List (R × ℕ)) → Alike (xs ++ ys) (ys ++ xs)
Alike-comm xs ys = record { totals = λ g. ap (λ v. v % 2 ^ 64) (total-append g xs ys ∙ omega arith ∙ sym (total-append g ys xs)) }

pub total-joined : {R : Type 0} (g : R → ℕ) (bs : List (List (R × ℕ))) → total g (joined bs) ≡ sum_by (total g) bs
total-joined g [] = refl
total-joined g (b ∷ bs) = total-append g b (joined bs) ∙ ap (λ v. total g b + v) (total-joined g bs) ∙ sym (sum_by-cons (total g) b bs)

pub Alike-joined_permutation : {R : Type 0} (bs cs : List (List (R × ℕ))) → IsPermutation bs cs → Alike (joined cs) (joined bs)
Alike-joined_permutation bs cs p = record { totals = λ g. ap (λ v. v % 2 ^ 64) (total-joined g cs ∙ sum_by-IsPermutation (total g) bs cs p ∙ sym (total-joined g bs)) }

pub joined-append : {R : Type 0} (bs cs : List (List (R × ℕ))) → joined (bs ++ cs) ≡ joined bs ++ joined cs
joined-append [] cs = refl
joined-append (b ∷ bs) cs = ap (λ v. b ++ v) (joined-append bs cs) ∙ sym (append_assoc b (joined bs) (joined cs))

-- one more collection of a list
pub joined_more : {R : Type 0} (bs : List (List (R × ℕ))) (i : ℕ) (b : List (R × ℕ)) → i < length bs → b ≡ get_or bs i b → joined (take (i + 1) bs) ≡ joined (take i bs) ++ b
joined_more bs i b low is = ap joined (take_more bs i b low) ∙ joined-append (take i bs) (get_or bs i b ∷ []) ∙ ap (λ v. joined (take i bs) ++ v) (append-nil (get_or bs i b) ∙ sym is)

-- two lists of collections, one collection alike another
abbrev pub AlikeEach : {R : Type 0} → List (List (R × ℕ)) → List (List (R × ℕ)) → Type 0
AlikeEach [] [] = Unit {0}
AlikeEach (b ∷ bs) (c ∷ cs) = Alike b c × AlikeEach bs cs
AlikeEach [] (c ∷ cs) = ⊥
AlikeEach (b ∷ bs) [] = ⊥

pub Alike-joined : {R : Type 0} (bs cs : List (List (R × ℕ))) → AlikeEach bs cs → Alike (joined bs) (joined cs)
Alike-joined [] [] h = Alike-refl []
Alike-joined (b ∷ bs) (c ∷ cs) h = Alike-append h.0 (Alike-joined bs cs h.1)
Alike-joined [] (c ∷ cs) h = absurd h
Alike-joined (b ∷ bs) [] h = absurd h

pub mapped-joined : {A B : Type 0} (f : A → B) (bs : List (List (A × ℕ))) → mapped f (joined bs) ≡ joined (map (mapped f) bs)
mapped-joined f [] = refl
mapped-joined f (b ∷ bs) = mapped-append f b (joined bs) ∙ ap (λ v. mapped f b ++ v) (mapped-joined f bs)

-- ---- the entries whose record passes a test

abbrev pub filtered : {R : Type 0} → (R → Bool) → List (R × ℕ) → List (R × ℕ)
filtered p [] = []
filtered p (e ∷ es) = if p e.0 then e ∷ filtered p es else filtered p es

total-filtered_by : {R : Type 0} (g : R → ℕ) (e : R × ℕ) (es : List (R × ℕ)) (m : ℕ) (b : Bool) → total g es ≡ m → total g (if b then e ∷ es else es) ≡ (if b then g e.0 else 0) * e.1 + m
total-filtered_by g e es m true h = omega (arith, h)
total-filtered_by g e es m false h = omega (arith, h)

pub total-filtered : {R : Type 0} (g : R → ℕ) (p : R → Bool) (es : List (R × ℕ)) → total g (filtered p es) ≡ total (λ r. if p r then g r else 0) es
total-filtered g p [] = refl
total-filtered g p (e ∷ es) = total-filtered_by g e (filtered p es) (total (λ r. if p r then g r else 0) es) (p e.0) (total-filtered g p es)

pub Alike-filtered : {R : Type 0} (p : R → Bool) (xs ys : List (R × ℕ)) → Alike xs ys → Alike (filtered p xs) (filtered p ys)
Alike-filtered p xs ys s = record { totals = λ g. rw (total-filtered g p xs, total-filtered g p ys) (s.totals (λ r. if p r then g r else 0)) }

filtered-append_by : {R : Type 0} (b : Bool) (e : R × ℕ) (us vs ws : List (R × ℕ)) → us ≡ vs ++ ws → (if b then e ∷ us else us) ≡ (if b then e ∷ vs else vs) ++ ws
filtered-append_by true e us vs ws h = ap (λ v. e ∷ v) h
filtered-append_by false e us vs ws h = h

pub filtered-append : {R : Type 0} (p : R → Bool) (xs ys : List (R × ℕ)) → filtered p (xs ++ ys) ≡ filtered p xs ++ filtered p ys
filtered-append p [] ys = refl
filtered-append p (e ∷ xs) ys = filtered-append_by (p e.0) e (filtered p (xs ++ ys)) (filtered p xs) (filtered p ys) (filtered-append p xs ys)

-- ---- products: each pair of records, with the product of their weights

abbrev pub paired : {A B : Type 0} → A → ℕ → List (B × ℕ) → List ((A × B) × ℕ)
paired a w [] = []
paired a w (e ∷ es) = ((a, e.0), w * e.1) ∷ paired a w es

abbrev pub product : {A B : Type 0} → List (A × ℕ) → List (B × ℕ) → List ((A × B) × ℕ)
product [] ys = []
product (e ∷ xs) ys = paired e.0 e.1 ys ++ product xs ys

total-paired : {A B : Type 0} (g : A × B → ℕ) (a : A) (w : ℕ) (ys : List (B × ℕ)) → total g (paired a w ys) ≡ total (λ b. g (a, b)) ys * w
total-paired g a w [] = omega arith
total-paired g a w (e ∷ ys) = ap (λ v. g (a, e.0) * (w * e.1) + v) (total-paired g a w ys) ∙ regroup (g (a, e.0)) w e.1 (total (λ b. g (a, b)) ys) where
  regroup : (k w v t : ℕ) → k * (w * v) + t * w ≡ (k * v + t) * w
  regroup k w v t = omega arith

pub total-product : {A B : Type 0} (g : A × B → ℕ) (xs : List (A × ℕ)) (ys : List (B × ℕ)) → total g (product xs ys) ≡ total (λ a. total (λ b. g (a, b)) ys) xs
total-product g [] ys = refl
total-product g (e ∷ xs) ys = total-append g (paired e.0 e.1 ys) (product xs ys) ∙ ap (λ v. v + total g (product xs ys)) (total-paired g e.0 e.1 ys) ∙ ap (λ v. total (λ b. g (e.0, b)) ys * e.1 + v) (total-product g xs ys)

-- coefficients count modulo 2^64
pub total-cong : {R : Type 0} (g h : R → ℕ) (es : List (R × ℕ)) → ((r : R) → g r % 2 ^ 64 ≡ h r % 2 ^ 64) → total g es % 2 ^ 64 ≡ total h es % 2 ^ 64
total-cong g h [] f = refl
total-cong g h (e ∷ es) f = cong_add (g e.0 * e.1) (h e.0 * e.1) (total g es) (total h es) (each (g e.0) (h e.0) e.1 (f e.0)) (total-cong g h es f) where
  turned : (a b : ℕ) → a * b ≡ b * a
  turned a b = omega arith

  each : (a b w : ℕ) → a % 2 ^ 64 ≡ b % 2 ^ 64 → (a * w) % 2 ^ 64 ≡ (b * w) % 2 ^ 64
  each a b w k = ap (λ n. n % 2 ^ 64) (turned a w) ∙ cong_mul w a b k ∙ ap (λ n. n % 2 ^ 64) (turned w b)

total-plus : {R : Type 0} (g h : R → ℕ) (es : List (R × ℕ)) → total (λ r. g r + h r) es ≡ total g es + total h es
total-plus g h [] = refl
total-plus g h (e ∷ es) = ap (λ v. (g e.0 + h e.0) * e.1 + v) (total-plus g h es) ∙ omega arith

pub Alike-product : {A B : Type 0} (xs us : List (A × ℕ)) (ys vs : List (B × ℕ)) → Alike xs us → Alike ys vs → Alike (product xs ys) (product us vs)
Alike-product xs us ys vs s t = record { totals = λ g. rw (total-product g xs ys, total-product g us vs) (s.totals (λ a. total (λ b. g (a, b)) ys) ∙ total-cong (λ a. total (λ b. g (a, b)) ys) (λ a. total (λ b. g (a, b)) vs) us (λ a. t.totals (λ b. g (a, b)))) }

-- the product of a sum is the sum of the products
pub product-append_left : {A B : Type 0} (xs us : List (A × ℕ)) (ys : List (B × ℕ)) → product (xs ++ us) ys ≡ product xs ys ++ product us ys
product-append_left [] us ys = refl
product-append_left (e ∷ xs) us ys = ap (λ v. paired e.0 e.1 ys ++ v) (product-append_left xs us ys) ∙ sym (append_assoc (paired e.0 e.1 ys) (product xs ys) (product us ys))

pub Alike-product_right : {A B : Type 0} (xs : List (A × ℕ)) (ys vs : List (B × ℕ)) → Alike (product xs (ys ++ vs)) (product xs ys ++ product xs vs)
Alike-product_right xs ys vs = record { totals = λ g. rw (total-product g xs (ys ++ vs), total-append g (product xs ys) (product xs vs), total-product g xs ys, total-product g xs vs) (total-cong (λ a. total (λ b. g (a, b)) (ys ++ vs)) (λ a. total (λ b. g (a, b)) ys + total (λ b. g (a, b)) vs) xs (λ a. ap (λ v. v % 2 ^ 64) (total-append (λ b. g (a, b)) ys vs)) ∙ ap (λ v. v % 2 ^ 64) (total-plus (λ a. total (λ b. g (a, b)) ys) (λ a. total (λ b. g (a, b)) vs) xs)) }

-- ---- weights count modulo 2^64

abbrev pub wrapped : {R : Type 0} → List (R × ℕ) → List (R × ℕ)
wrapped [] = []
wrapped (e ∷ es) = (e.0, e.1 % 2 ^ 64) ∷ wrapped es

pub Alike-wrapped : {R : Type 0} (es : List (R × ℕ)) → Alike (wrapped es) es
Alike-wrapped es = record { totals = λ g. at g es } where
  at : {R : Type 0} (g : R → ℕ) (es : List (R × ℕ)) → total g (wrapped es) % 2 ^ 64 ≡ total g es % 2 ^ 64
  at g [] = refl
  at g (e ∷ es) = cong_add (g e.0 * (e.1 % 2 ^ 64)) (g e.0 * e.1) (total g (wrapped es)) (total g es) (cong_mul (g e.0) (e.1 % 2 ^ 64) e.1 (omega arith)) (at g es)
