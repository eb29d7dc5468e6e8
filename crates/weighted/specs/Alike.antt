-- Collections with no order of their records: two lists are one collection where each sum with a coefficient per record is the same modulo 2^64.
use Rattle.std.specs.Prelude.{◌≡◌, ℕ, ◌+◌, ◌*◌, ◌%◌, ◌^◌, Bool, true, false, List, [], ◌∷◌, ◌++◌, if◌then◌else◌, refl}
use Rattle.std.specs.declared.cmp.Ordering.{Ordering}
use Rattle.std.specs.declared.cmp.Ordering.TheVariants.{Equal}
use Rattle.std.specs.Ordering.{is_eq}
use Rattle.std.proofs.Common.{arith, ap, sym, ◌∙◌}
use Rattle.weighted.specs.Words.{Same, sum_at, minus}
use Rattle.weighted.specs.WordLaws.{total, total-same, cong_add, cong_mul, mapped}

pub record Alike {R : Type 0} (xs ys : List (R × ℕ)) : Type 0 where
  pub totals : (g : R → ℕ) → total g xs % 2 ^ 64 ≡ total g ys % 2 ^ 64

module _ {R : Type 0} where
  pub Alike-refl : (xs : List (R × ℕ)) → Alike xs xs
  Alike-refl xs = record { totals = λ g. refl }

  pub Alike-is : {xs ys : List (R × ℕ)} → xs ≡ ys → Alike xs ys
  Alike-is e = record { totals = λ g. ap (λ v. total g v % 2 ^ 64) e }

  pub Alike-sym : {xs ys : List (R × ℕ)} → Alike xs ys → Alike ys xs
  Alike-sym s = record { totals = λ g. sym (s.totals g) }

  pub Alike-trans : {xs ys zs : List (R × ℕ)} → Alike xs ys → Alike ys zs → Alike xs zs
  Alike-trans s t = record { totals = λ g. s.totals g ∙ t.totals g }

  pub total-append : (g : R → ℕ) (xs ys : List (R × ℕ)) → total g (xs ++ ys) ≡ total g xs + total g ys
  total-append g [] ys = omega arith
  total-append g (e ∷ xs) ys = omega (arith, total-append g xs ys)

  pub Alike-append : {xs ys us vs : List (R × ℕ)} → Alike xs ys → Alike us vs → Alike (xs ++ us) (ys ++ vs)
  Alike-append {xs} {ys} {us} {vs} s t = record { totals = λ g. rw (total-append g xs us, total-append g ys vs) (cong_add (total g xs) (total g ys) (total g us) (total g vs) (s.totals g) (t.totals g)) }

  pub Alike-swap : (a b c d : List (R × ℕ)) → Alike ((a ++ b) ++ (c ++ d)) ((a ++ c) ++ (b ++ d))
  Alike-swap a b c d = record { totals = λ g. rw (total-append g (a ++ b) (c ++ d), total-append g a b, total-append g c d, total-append g (a ++ c) (b ++ d), total-append g a c, total-append g b d) (ap (λ n. n % 2 ^ 64) (omega arith)) }

pub total-mapped : {A B : Type 0} (g : B → ℕ) (f : A → B) (es : List (A × ℕ)) → total g (mapped f es) ≡ total (λ a. g (f a)) es
total-mapped g f [] = refl
total-mapped g f (e ∷ es) = ap (λ v. g (f e.0) * e.1 + v) (total-mapped g f es)

pub Alike-mapped : {A B : Type 0} (f : A → B) (xs ys : List (A × ℕ)) → Alike xs ys → Alike (mapped f xs) (mapped f ys)
Alike-mapped f xs ys s = record { totals = λ g. rw (total-mapped g f xs, total-mapped g f ys) (s.totals (λ a. g (f a))) }

-- at a lawful order of the records it says that each record has the same word
pub Alike-words : {R : Type 0} (cmp : R → R → Ordering) (same : (x y : R) → cmp x y ≡ Equal → x ≡ y) (itself : (x : R) → cmp x x ≡ Equal) (xs ys : List (R × ℕ)) → Same cmp xs ys → Alike xs ys
Alike-words cmp same itself xs ys s = record { totals = λ g. total-same cmp same itself g xs ys s }

words_total_by : (b : Bool) (w n m : ℕ) → n ≡ m → (if b then w else 0) + n ≡ (if b then 1 else 0) * w + m
words_total_by true w n m h = omega arith
words_total_by false w n m h = omega arith

words_total : {R : Type 0} (cmp : R → R → Ordering) (es : List (R × ℕ)) (x : R) → sum_at cmp es x ≡ total (λ a. if is_eq (cmp a x) then 1 else 0) es
words_total cmp [] x = refl
words_total cmp (e ∷ es) x = words_total_by (is_eq (cmp e.0 x)) e.1 (sum_at cmp es x) (total (λ a. if is_eq (cmp a x) then 1 else 0) es) (words_total cmp es x)

pub words-Alike : {R : Type 0} (cmp : R → R → Ordering) (xs ys : List (R × ℕ)) → Alike xs ys → Same cmp xs ys
words-Alike cmp xs ys s = record { words = λ x. rw (words_total cmp xs x, words_total cmp ys x) (s.totals (λ a. if is_eq (cmp a x) then 1 else 0)) }

-- what takes a collection away
abbrev pub negated : {R : Type 0} → List (R × ℕ) → List (R × ℕ)
negated [] = []
negated (e ∷ es) = (e.0, minus e.1) ∷ negated es

minus_one : (k w n m : ℕ) → (n + m) % 2 ^ 64 ≡ 0 → ((k * w + n) + (k * minus w + m)) % 2 ^ 64 ≡ 0
minus_one k w n m h = rw (regroup k w (minus w) n m) (cong_add (k * (w + minus w)) 0 (n + m) 0 (cong_mul k (w + minus w) 0 (omega arith) ∙ omega arith) (h ∙ omega arith)) where
  regroup : (k w v n m : ℕ) → (k * w + n) + (k * v + m) ≡ k * (w + v) + (n + m)
  regroup k w v n m = omega arith

pub negated-total : {R : Type 0} (g : R → ℕ) (es : List (R × ℕ)) → (total g es + total g (negated es)) % 2 ^ 64 ≡ 0
negated-total g [] = omega arith
negated-total g (e ∷ es) = minus_one (g e.0) e.1 (total g es) (total g (negated es)) (negated-total g es)

negated_by : (a b c d : ℕ) → (a + b) % 2 ^ 64 ≡ 0 → (c + d) % 2 ^ 64 ≡ 0 → a % 2 ^ 64 ≡ c % 2 ^ 64 → b % 2 ^ 64 ≡ d % 2 ^ 64
negated_by a b c d h k e = omega arith

pub Alike-negated : {R : Type 0} (xs ys : List (R × ℕ)) → Alike xs ys → Alike (negated xs) (negated ys)
Alike-negated xs ys s = record { totals = λ g. negated_by (total g xs) (total g (negated xs)) (total g ys) (total g (negated ys)) (negated-total g xs) (negated-total g ys) (s.totals g) }
