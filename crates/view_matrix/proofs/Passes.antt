-- A pass over the words of columns.
use Rattle.std.proofs.Common.{◌≡◌, ◌∙◌, ◌+◌, ◌*◌, ◌≤◌, ◌<◌, ℕ, zero, suc, Bool, true, false, cond, ◌&&◌, List, ◌∷◌, ◌++◌, length, map, filter, count_by, get_or, refl, sym, ap, ap₂, arith, bit_and, bit_xor, count_ones}
use Rattle.std.specs.List.{range_with_len}
use Rattle.std.proofs.lemmas.Simd.{map-map}
use Rattle.std.proofs.lemmas.List.{get_or_past, map-append}
use Rattle.std.proofs.lemmas.List.Sums.{sum_by-append, length-filter, count_by-le-length}
use Rattle.std.proofs.lemmas.List.Elements.{filter-append}
use Rattle.std.proofs.lemmas.List.FromFn.{length-range_with_len}
use Rattle.view_matrix.specs.Columns.{at, is_set, places, set_in, word_of, AreWords}
use Rattle.view_matrix.specs.Matrices.{differ}
use Rattle.view_matrix.proofs.Ranges.{range-append, up_to}
use Rattle.view_matrix.proofs.Words.{places_are, set_are, set_word, word_and, word_xor, ones_of, set_in_word}

-- the edges up to the end of a word
one_word : (k n : ℕ) → n ≡ 64 → range_with_len 0 (64 * (k + 1)) ≡ range_with_len 0 (64 * k) ++ places k
one_word k n e =
    ap (range_with_len 0) (let h : 64 * (k + 1) ≡ 64 * k + n = omega arith in h) ∙ range-append 0 (64 * k) n
    ∙ ap (λ (xs : List ℕ). range_with_len 0 (64 * k) ++ xs) (ap (λ (a : ℕ). range_with_len a n) (let h : 0 + 64 * k ≡ 64 * k = omega arith in h) ∙ sym (places_are k n e))

pub next_word : (k : ℕ) → range_with_len 0 (64 * (k + 1)) ≡ range_with_len 0 (64 * k) ++ places k
next_word k = one_word k 64 refl

-- ---- counting

pub counted_more : (f : ℕ → Bool) (k count word : ℕ) → count ≡ count_by f (range_with_len 0 (64 * k)) → word ≡ word_of f k → count + count_ones word ≡ count_by f (range_with_len 0 (64 * (k + 1)))
counted_more f k count word so_far is =
    ap₂ (λ (a b : ℕ). a + b) so_far (ap count_ones is ∙ ones_of f k) ∙ sym (ap (count_by f) (next_word k) ∙ sum_by-append (λ (e : ℕ). _) (range_with_len 0 (64 * k)) (places k))

pub counted_few : (f : ℕ → Bool) (n : ℕ) → count_by f (range_with_len 0 n) ≤ n
counted_few f n = omega (arith, count_by-le-length f (range_with_len 0 n), length-range_with_len 0 n)

pub counted_all : (f : ℕ → Bool) (len n : ℕ) → len ≤ 64 * n → ((e : ℕ) → len ≤ e → f e ≡ false) → count_by f (range_with_len 0 (64 * n)) ≡ count_by f (range_with_len 0 len)
counted_all f len n le none = sym (length-filter f (range_with_len 0 (64 * n))) ∙ ap (λ (xs : List ℕ). length xs) (up_to f len (64 * n) le none) ∙ length-filter f (range_with_len 0 len)

-- ---- listing

pub listed_more : (f : ℕ → Bool) (k word : ℕ) → word ≡ word_of f k → filter f (range_with_len 0 (64 * k)) ++ map (λ (i : ℕ). 64 * k + i) (set_in word) ≡ filter f (range_with_len 0 (64 * (k + 1)))
listed_more f k word is =
    ap (λ (xs : List ℕ). filter f (range_with_len 0 (64 * k)) ++ xs) (ap (λ (w : ℕ). map (λ (i : ℕ). 64 * k + i) (set_in w)) is ∙ set_in_word f k)
    ∙ sym (filter-append f (range_with_len 0 (64 * k)) (places k)) ∙ ap (filter f) (sym (next_word k))

-- the same, as what is made of each number
pub pushed_more : {X : Type 0} (g : ℕ → X) (f : ℕ → Bool) (k word : ℕ) (old new : List X) → word ≡ word_of f k → old ≡ map g (filter f (range_with_len 0 (64 * k))) → new ≡ old ++ map (λ (i : ℕ). g (64 * k + i)) (set_in word)
    → new ≡ map g (filter f (range_with_len 0 (64 * (k + 1))))
pushed_more {X} g f k word old new is so_far more =
    more ∙ ap₂ (λ (a b : List X). a ++ b) so_far (sym (map-map g (λ (i : ℕ). 64 * k + i) (set_in word)))
    ∙ sym (map-append g (filter f (range_with_len 0 (64 * k))) (map (λ (i : ℕ). 64 * k + i) (set_in word))) ∙ ap (map g) (listed_more f k word is)

one_made : {X : Type 0} (g h : ℕ → X) (a : ℕ) (rest : List ℕ) (b : Bool) → (b ≡ true → g a ≡ h a) → map g rest ≡ map h rest → map g (cond b (a ∷ rest) rest) ≡ map h (cond b (a ∷ rest) rest)
one_made {X} g h a rest true same so_far = ap₂ (λ (x : X) (xs : List X). x ∷ xs) (same refl) so_far
one_made g h a rest false same so_far = so_far

-- what is made of the numbers of which a test holds
pub made_same : {X : Type 0} (g h : ℕ → X) (p : ℕ → Bool) (a n : ℕ) → ((e : ℕ) → e < a + n → p e ≡ true → g e ≡ h e) → map g (filter p (range_with_len a n)) ≡ map h (filter p (range_with_len a n))
made_same g h p a zero same = refl
made_same {X} g h p a (suc n) same =
    one_made g h a (filter p (range_with_len (a + 1) n)) (p a) (λ holds. same a (omega arith) holds) (made_same g h p (a + 1) n (λ e lt holds. same e (omega (arith, lt)) holds))

-- the edges of the bits that are set in a word, each with the bit of another word
signed_by : {X : Type 0} (pair : ℕ → Bool → X) (bit : ℕ → Bool) (k word signs n : ℕ) → n ≡ 64 → signs ≡ word_of bit k
    → map (λ (i : ℕ). pair (64 * k + i) (is_set signs i)) (set_in word) ≡ map (λ (i : ℕ). pair (64 * k + i) (bit (64 * k + i))) (set_in word)
signed_by {X} pair bit k word signs n e is =
    ap (map (λ (i : ℕ). pair (64 * k + i) (is_set signs i))) (set_are word n e)
    ∙ made_same (λ (i : ℕ). pair (64 * k + i) (is_set signs i)) (λ (i : ℕ). pair (64 * k + i) (bit (64 * k + i))) (is_set word) 0 n
    (λ i lt holds. ap (pair (64 * k + i)) (ap (λ (w : ℕ). is_set w i) is ∙ set_word bit k i (omega (arith, lt))))
    ∙ ap (map (λ (i : ℕ). pair (64 * k + i) (bit (64 * k + i)))) (sym (set_are word n e))

pub signed : {X : Type 0} (pair : ℕ → Bool → X) (bit : ℕ → Bool) (k word signs : ℕ) → signs ≡ word_of bit k
    → map (λ (i : ℕ). pair (64 * k + i) (is_set signs i)) (set_in word) ≡ map (λ (i : ℕ). pair (64 * k + i) (bit (64 * k + i))) (set_in word)
signed pair bit k word signs is = signed_by pair bit k word signs 64 refl is

-- ---- the words of two columns, and of three

pub both : (a b : List Bool) (xs ys : List ℕ) (k : ℕ) → AreWords a xs → AreWords b ys → bit_and (get_or xs k 0) (get_or ys k 0) ≡ word_of (λ e. at a e && at b e) k
both a b xs ys k of_a of_b = ap₂ bit_and (of_a.each k) (of_b.each k) ∙ word_and (at a) (at b) k

pub apart_in : (p a b : List Bool) (ws xs ys : List ℕ) (k : ℕ) → AreWords p ws → AreWords a xs → AreWords b ys → bit_and (get_or ws k 0) (bit_xor (get_or xs k 0) (get_or ys k 0)) ≡ word_of (λ e. at p e && differ (at a e) (at b e)) k
apart_in p a b ws xs ys k of_p of_a of_b = ap₂ bit_and (of_p.each k) (ap₂ bit_xor (of_a.each k) (of_b.each k) ∙ word_xor (at a) (at b) k) ∙ word_and (at p) (λ e. differ (at a e) (at b e)) k

-- behind the end no bit is set
pub none_behind : (a : List Bool) (g : ℕ → Bool) (e : ℕ) → length a ≤ e → (at a e && g e) ≡ false
none_behind a g e le = ap (λ (b : Bool). b && g e) (get_or_past a e false le)
