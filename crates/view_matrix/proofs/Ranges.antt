-- Ranges of numbers: joined, filtered, counted.
use Rattle.std.proofs.Common.{◌≡◌, ◌∙◌, ◌+◌, ◌-◌, ◌<◌, ◌≤◌, ℕ, zero, suc, Bool, true, false, cond, List, [], ◌∷◌, ◌++◌, map, filter, refl, ap, ap₂, arith, replicate, append-nil}
use Rattle.std.specs.List.{range_with_len}
use Rattle.std.proofs.lemmas.List.Elements.{filter-append}

pub range-append : (a m n : ℕ) → range_with_len a (m + n) ≡ range_with_len a m ++ range_with_len (a + m) n
range-append a zero n = ap₂ (λ (b k : ℕ). range_with_len b k) (let e : a ≡ a + 0 = omega arith in e) (let e : zero + n ≡ n = omega arith in e)
range-append a (suc m) n =
    ap (λ (k : ℕ). range_with_len a k) (let e : suc m + n ≡ suc (m + n) = omega arith in e)
    ∙ ap (λ (xs : List ℕ). a ∷ xs) (range-append (a + 1) m n ∙ ap (λ (b : ℕ). range_with_len (a + 1) m ++ range_with_len b n) (let e : a + 1 + m ≡ a + suc m = omega arith in e))

-- a range, and the rest of a longer one
pub range_split : (m n : ℕ) → m ≤ n → range_with_len 0 n ≡ range_with_len 0 m ++ range_with_len m (n - m)
range_split m n le =
    ap (λ (k : ℕ). range_with_len 0 k) (let e : n ≡ m + (n - m) = omega arith in e) ∙ range-append 0 m (n - m)
    ∙ ap (λ (b : ℕ). range_with_len 0 m ++ range_with_len b (n - m)) (let e : 0 + m ≡ m = omega arith in e)

-- ---- where a test holds

-- tests that agree on a range keep the same of it
pub same_of_range : (p q : ℕ → Bool) (a n : ℕ) → ((e : ℕ) → a ≤ e → e < a + n → p e ≡ q e) → filter p (range_with_len a n) ≡ filter q (range_with_len a n)
same_of_range p q a zero same = refl
same_of_range p q a (suc n) same =
    ap₂ (λ (b : Bool) (xs : List ℕ). cond b (a ∷ xs) xs) (same a (omega arith) (omega arith)) (same_of_range p q (a + 1) n (λ e low high. same e (omega arith) (omega arith)))

-- where the test fails all over a range, it keeps none of it
pub none_of_range : (p : ℕ → Bool) (a n : ℕ) → ((e : ℕ) → a ≤ e → e < a + n → p e ≡ false) → filter p (range_with_len a n) ≡ []
none_of_range p a zero none = refl
none_of_range p a (suc n) none =
    ap (λ (b : Bool). cond b (a ∷ filter p (range_with_len (a + 1) n)) (filter p (range_with_len (a + 1) n))) (none a (omega arith) (omega arith))
    ∙ none_of_range p (a + 1) n (λ e low high. none e (omega arith) (omega arith))

-- the numbers of a range of which the test holds, where it fails behind a place
pub up_to : (p : ℕ → Bool) (m n : ℕ) → m ≤ n → ((e : ℕ) → m ≤ e → p e ≡ false) → filter p (range_with_len 0 n) ≡ filter p (range_with_len 0 m)
up_to p m n le none =
    ap (filter p) (range_split m n le) ∙ filter-append p (range_with_len 0 m) (range_with_len m (n - m))
    ∙ ap (λ (xs : List ℕ). filter p (range_with_len 0 m) ++ xs) (none_of_range p m (n - m) (λ e low high. none e low)) ∙ append-nil (filter p (range_with_len 0 m))

-- a range that begins so much later
pub shifted : (p : ℕ → Bool) (c a n : ℕ) → map (λ (i : ℕ). c + i) (filter (λ (i : ℕ). p (c + i)) (range_with_len a n)) ≡ filter p (range_with_len (c + a) n)
shifted p c a zero = refl
shifted p c a (suc n) =
    one (p (c + a)) ∙ ap (λ (xs : List ℕ). cond (p (c + a)) ((c + a) ∷ xs) xs) (shifted p c (a + 1) n ∙ ap (λ (b : ℕ). filter p (range_with_len b n)) (let e : c + (a + 1) ≡ c + a + 1 = omega arith in e)) where
      one : (b : Bool) → map (λ (i : ℕ). c + i) (cond b (a ∷ filter (λ (i : ℕ). p (c + i)) (range_with_len (a + 1) n)) (filter (λ (i : ℕ). p (c + i)) (range_with_len (a + 1) n)))
          ≡ cond b ((c + a) ∷ map (λ (i : ℕ). c + i) (filter (λ (i : ℕ). p (c + i)) (range_with_len (a + 1) n))) (map (λ (i : ℕ). c + i) (filter (λ (i : ℕ). p (c + i)) (range_with_len (a + 1) n)))
      one true = refl
      one false = refl

-- the first number of a range of which the test holds, and those behind it
pub first_of_range : (p : ℕ → Bool) (a t n : ℕ) → t < n → ((e : ℕ) → a ≤ e → e < a + t → p e ≡ false) → p (a + t) ≡ true
    → filter p (range_with_len a n) ≡ (a + t) ∷ filter p (range_with_len (a + t + 1) (n - (t + 1)))
first_of_range p a t n lt none holds =
    ap (λ (k : ℕ). filter p (range_with_len a k)) (let e : n ≡ t + suc (n - (t + 1)) = omega arith in e)
    ∙ ap (filter p) (range-append a t (suc (n - (t + 1)))) ∙ filter-append p (range_with_len a t) (range_with_len (a + t) (suc (n - (t + 1))))
    ∙ ap (λ (xs : List ℕ). xs ++ filter p (range_with_len (a + t) (suc (n - (t + 1))))) (none_of_range p a t none)
    ∙ ap (λ (b : Bool). cond b ((a + t) ∷ filter p (range_with_len (a + t + 1) (n - (t + 1)))) (filter p (range_with_len (a + t + 1) (n - (t + 1))))) holds

-- a range over which a test always fails, as a list of truth values
pub all_false : (p : ℕ → Bool) (a n : ℕ) → ((e : ℕ) → p e ≡ false) → map p (range_with_len a n) ≡ replicate n false
all_false p a zero none = refl
all_false p a (suc n) none = ap₂ (λ (b : Bool) (bs : List Bool). b ∷ bs) (none a) (all_false p (a + 1) n none)
