-- Words and their bits.
use Rattle.std.proofs.Common.{◌≡◌, ◌≢◌, ◌∙◌, ◌+◌, ◌-◌, ◌*◌, ◌%◌, ◌^◌, ◌<◌, ◌≤◌, ◌==◌, ◌⊎◌, inl, inr, ℕ, Bool, true, false, cond, not, ◌&&◌, ◌||◌, map, filter, count_by, min, max, refl, sym, ap, ap₂, arith, bit_and, bit_or, bit_xor, count_ones, w64}
use mathlib.Core.Path.{fun_ext}
use Rattle.std.specs.List.{range_with_len}
use Rattle.std.specs.Int.{bit_at, bit_not}
use Rattle.std.specs.Simd.Lanes.{mask_l}
use Rattle.std.proofs.lemmas.Simd.{bit_mask_l, mask_l-lt, ones-mask_l}
use Rattle.std.proofs.lemmas.Nat.Bits.{bit_at-lt, bit_at_above, bit_at_and, bit_at_or, bit_at_xor, bit_at_not, same_from_bits}
use Rattle.std.proofs.lemmas.Bool.Decides.{eqb_tells}
use Rattle.std.proofs.lemmas.List.FromFn.{get_or-map-range_with_len, length-map-range_with_len}
use Rattle.view_matrix.specs.Columns.{is_set, places, set_in, word_of}
use Rattle.view_matrix.specs.Matrices.{differ}
use Rattle.view_matrix.proofs.Ranges.{same_of_range, shifted}

-- ---- 64 by another name, so that no range is written out

word_is : (bit : ℕ → Bool) (k n : ℕ) → n ≡ 64 → word_of bit k ≡ mask_l (map bit (range_with_len (64 * k) n))
unfolding word_of places
word_is bit k n e = ap (λ (m : ℕ). mask_l (map bit (range_with_len (64 * k) m))) (sym e)

pub places_are : (k n : ℕ) → n ≡ 64 → places k ≡ range_with_len (64 * k) n
unfolding places
places_are k n e = ap (range_with_len (64 * k)) (sym e)

pub set_are : (word n : ℕ) → n ≡ 64 → set_in word ≡ filter (is_set word) (range_with_len 0 n)
unfolding set_in
set_are word n e = ap (λ (m : ℕ). filter (is_set word) (range_with_len 0 m)) (sym e)

-- ---- a bit, as a number and as a truth value

as_bit : (n : ℕ) → n < 2 → ((n == 1) ≡ true) × (n ≡ 1) ⊎ ((n == 1) ≡ false) × (n ≢ 1) → n ≡ cond (n == 1) 1 0
as_bit n lt (inl h) = h.1 ∙ ap (λ (b : Bool). cond b 1 0) (sym h.0)
as_bit n lt (inr h) = (let none : n ≡ 0 = omega (arith, h.1) in none) ∙ ap (λ (b : Bool). cond b 1 0) (sym h.0)

pub bit_is : (n i : ℕ) → bit_at n i ≡ cond (is_set n i) 1 0
bit_is n i = as_bit (bit_at n i) (bit_at-lt n i) (eqb_tells (bit_at n i) 1)

-- two numbers with the same bits are equal
pub same_bits : (a b : ℕ) → ((i : ℕ) → is_set a i ≡ is_set b i) → a ≡ b
same_bits a b same = same_from_bits a b (λ i. bit_is a i ∙ ap (λ (c : Bool). cond c 1 0) (same i) ∙ sym (bit_is b i))

pub none_above : (n i : ℕ) → n < 2 ^ 64 → 64 ≤ i → is_set n i ≡ false
none_above n i lt le = ap (λ (m : ℕ). m == 1) (bit_at_above n 64 i lt le)

set_cond : (b : Bool) → (cond b 1 0 == 1) ≡ b
set_cond true = refl
set_cond false = refl

and_bits : (a b : Bool) → (min (cond a 1 0) (cond b 1 0) == 1) ≡ (a && b)
and_bits true true = refl
and_bits true false = refl
and_bits false true = refl
and_bits false false = refl

or_bits : (a b : Bool) → (max (cond a 1 0) (cond b 1 0) == 1) ≡ (a || b)
or_bits true true = refl
or_bits true false = refl
or_bits false true = refl
or_bits false false = refl

not_bit : (b : Bool) → (1 - cond b 1 0 == 1) ≡ not b
not_bit true = refl
not_bit false = refl

xor_bits : (a b : Bool) → ((cond a 1 0 + cond b 1 0) % 2 == 1) ≡ differ a b
xor_bits true true = refl
xor_bits true false = refl
xor_bits false true = refl
xor_bits false false = refl

pub set_and : (a b i : ℕ) → is_set (bit_and a b) i ≡ (is_set a i && is_set b i)
set_and a b i = ap (λ (n : ℕ). n == 1) (bit_at_and a b i ∙ ap₂ min (bit_is a i) (bit_is b i)) ∙ and_bits (is_set a i) (is_set b i)

pub set_or : (a b i : ℕ) → is_set (bit_or a b) i ≡ (is_set a i || is_set b i)
set_or a b i = ap (λ (n : ℕ). n == 1) (bit_at_or a b i ∙ ap₂ max (bit_is a i) (bit_is b i)) ∙ or_bits (is_set a i) (is_set b i)

-- the complement in 64 bits
pub set_not : (n i : ℕ) → n < 2 ^ 64 → i < 64 → is_set (bit_not w64 n) i ≡ not (is_set n i)
set_not n i small lt = ap (λ (m : ℕ). m == 1) (bit_at_not w64 n i small lt ∙ ap (λ (m : ℕ). 1 - m) (bit_is n i)) ∙ not_bit (is_set n i)

pub set_xor : (a b i : ℕ) → is_set (bit_xor a b) i ≡ differ (is_set a i) (is_set b i)
set_xor a b i = ap (λ (n : ℕ). n == 1) (bit_at_xor a b i ∙ ap₂ (λ (m n : ℕ). (m + n) % 2) (bit_is a i) (bit_is b i)) ∙ xor_bits (is_set a i) (is_set b i)

-- ---- the words of a column

set_word_of : (bit : ℕ → Bool) (k n i : ℕ) → n ≡ 64 → i < n → is_set (word_of bit k) i ≡ bit (64 * k + i)
set_word_of bit k n i e lt =
    ap (λ (w : ℕ). is_set w i) (word_is bit k n e)
    ∙ ap (λ (m : ℕ). m == 1) (bit_mask_l (map bit (range_with_len (64 * k) n)) i ∙ ap (λ (b : Bool). cond b 1 0) (get_or-map-range_with_len bit (64 * k) n i (64 * k + i) false lt refl))
    ∙ set_cond (bit (64 * k + i))

pub set_word : (bit : ℕ → Bool) (k i : ℕ) → i < 64 → is_set (word_of bit k) i ≡ bit (64 * k + i)
set_word bit k i lt = set_word_of bit k 64 i refl lt

word_small : (bit : ℕ → Bool) (k n : ℕ) → n ≡ 64 → word_of bit k < 2 ^ n
word_small bit k n e = rw (word_is bit k n e) (let lt = mask_l-lt (map bit (range_with_len (64 * k) n)) in rw (length-map-range_with_len bit (64 * k) n) at lt)

pub word_lt : (bit : ℕ → Bool) (k : ℕ) → word_of bit k < 2 ^ 64
word_lt bit k = word_small bit k 64 refl

side : (i n : ℕ) → (i < n) ⊎ (n ≤ i)
side i n = grind arith

-- a word of 64 bits that has the bits of a column's word is that word
word_by : (bit : ℕ → Bool) (k n i : ℕ) → n < 2 ^ 64 → ((j : ℕ) → j < 64 → is_set n j ≡ bit (64 * k + j)) → (i < 64) ⊎ (64 ≤ i) → is_set n i ≡ is_set (word_of bit k) i
word_by bit k n i small same (inl lt) = same i lt ∙ sym (set_word bit k i lt)
word_by bit k n i small same (inr le) = none_above n i small le ∙ sym (none_above (word_of bit k) i (word_lt bit k) le)

pub word_from_bits : (bit : ℕ → Bool) (k n : ℕ) → n < 2 ^ 64 → ((i : ℕ) → i < 64 → is_set n i ≡ bit (64 * k + i)) → n ≡ word_of bit k
word_from_bits bit k n small same = same_bits n (word_of bit k) (λ i. word_by bit k n i small same (side i 64))

pub same_word : (f g : ℕ → Bool) (k : ℕ) → ((e : ℕ) → f e ≡ g e) → word_of f k ≡ word_of g k
same_word f g k same = ap (λ (h : ℕ → Bool). word_of h k) (fun_ext same)

and_by : (f g : ℕ → Bool) (k i : ℕ) → (i < 64) ⊎ (64 ≤ i) → is_set (bit_and (word_of f k) (word_of g k)) i ≡ is_set (word_of (λ e. f e && g e) k) i
and_by f g k i (inl lt) = set_and (word_of f k) (word_of g k) i ∙ ap₂ (λ (a b : Bool). a && b) (set_word f k i lt) (set_word g k i lt) ∙ sym (set_word (λ e. f e && g e) k i lt)
and_by f g k i (inr le) =
    set_and (word_of f k) (word_of g k) i ∙ ap₂ (λ (a b : Bool). a && b) (none_above (word_of f k) i (word_lt f k) le) (none_above (word_of g k) i (word_lt g k) le)
    ∙ sym (none_above (word_of (λ e. f e && g e) k) i (word_lt (λ e. f e && g e) k) le)

pub word_and : (f g : ℕ → Bool) (k : ℕ) → bit_and (word_of f k) (word_of g k) ≡ word_of (λ e. f e && g e) k
word_and f g k = same_bits (bit_and (word_of f k) (word_of g k)) (word_of (λ e. f e && g e) k) (λ i. and_by f g k i (side i 64))

xor_by : (f g : ℕ → Bool) (k i : ℕ) → (i < 64) ⊎ (64 ≤ i) → is_set (bit_xor (word_of f k) (word_of g k)) i ≡ is_set (word_of (λ e. differ (f e) (g e)) k) i
xor_by f g k i (inl lt) = set_xor (word_of f k) (word_of g k) i ∙ ap₂ differ (set_word f k i lt) (set_word g k i lt) ∙ sym (set_word (λ e. differ (f e) (g e)) k i lt)
xor_by f g k i (inr le) =
    set_xor (word_of f k) (word_of g k) i ∙ ap₂ differ (none_above (word_of f k) i (word_lt f k) le) (none_above (word_of g k) i (word_lt g k) le)
    ∙ sym (none_above (word_of (λ e. differ (f e) (g e)) k) i (word_lt (λ e. differ (f e) (g e)) k) le)

pub word_xor : (f g : ℕ → Bool) (k : ℕ) → bit_xor (word_of f k) (word_of g k) ≡ word_of (λ e. differ (f e) (g e)) k
word_xor f g k = same_bits (bit_xor (word_of f k) (word_of g k)) (word_of (λ e. differ (f e) (g e)) k) (λ i. xor_by f g k i (side i 64))

-- how many bits are set
pub ones_of : (bit : ℕ → Bool) (k : ℕ) → count_ones (word_of bit k) ≡ count_by bit (places k)
unfolding word_of
ones_of bit k = ones-mask_l bit (places k)

-- which bits are set
set_of : (bit : ℕ → Bool) (k n : ℕ) → n ≡ 64 → map (λ (i : ℕ). 64 * k + i) (set_in (word_of bit k)) ≡ filter bit (places k)
set_of bit k n e =
    ap (map (λ (i : ℕ). 64 * k + i)) (set_are (word_of bit k) n e ∙ same_of_range (is_set (word_of bit k)) (λ i. bit (64 * k + i)) 0 n (λ i low high. set_word_of bit k n i e (omega (arith, high))))
    ∙ shifted bit (64 * k) 0 n ∙ ap (λ (a : ℕ). filter bit (range_with_len a n)) (let h : 64 * k + 0 ≡ 64 * k = omega arith in h) ∙ ap (filter bit) (sym (places_are k n e))

pub set_in_word : (bit : ℕ → Bool) (k : ℕ) → map (λ (i : ℕ). 64 * k + i) (set_in (word_of bit k)) ≡ filter bit (places k)
set_in_word bit k = set_of bit k 64 refl
