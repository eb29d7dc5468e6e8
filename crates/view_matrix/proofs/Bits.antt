-- The bits of a word that are set, one after the other.
use Rattle.std.proofs.Common.{◌≡◌, ◌≢◌, ◌∙◌, ◌+◌, ◌-◌, ◌*◌, ◌/◌, ◌%◌, ◌^◌, ◌<◌, ◌≤◌, ◌==◌, ◌⊎◌, inl, inr, ℕ, Bool, true, false, if◌then◌else◌, List, [], ◌∷◌, map, filter, refl, sym, ap, ap₂, arith, bit_and, bit_or, w64}
use mathlib.Core.Path.{fun_ext}
use Rattle.std.specs.List.{range_with_len}
use Rattle.std.specs.Int.{bit_at, bit_not, trailing_zeros}
use Rattle.std.proofs.lemmas.Nat.{shr-shr}
use Rattle.std.proofs.lemmas.Nat.Bits.{bit_at-zero, bit_at-trailing_zeros, bit_at_set_same, bit_at_set_other, bit_at_clear_same, bit_at_clear_other}
use Rattle.std.proofs.lemmas.Simd.{map-map}
use Rattle.std.proofs.lemmas.Bool.Decides.{eqb_tells}
use Rattle.view_matrix.specs.Columns.{is_set, set_in}
use Rattle.view_matrix.proofs.Ranges.{none_of_range, up_to, shifted, first_of_range, same_of_range}
use Rattle.view_matrix.proofs.Words.{set_are}

-- ---- a word with one bit changed

module _ (word place : ℕ) (bit : Bool) (within : place < 64) where
  one_set : (i : ℕ) → bit ≡ true → ((i == place) ≡ true) × (i ≡ place) ⊎ ((i == place) ≡ false) × (i ≢ place) → is_set (bit_or word (1 * 2 ^ place % 2 ^ 64)) i ≡ (if i == place then bit else is_set word i)
  one_set i is (inl h) =
      ap (λ (j : ℕ). is_set (bit_or word (1 * 2 ^ place % 2 ^ 64)) j) h.1 ∙ ap (λ (n : ℕ). n == 1) (bit_at_set_same w64 word place within) ∙ sym is
      ∙ ap (λ (b : Bool). if b then bit else is_set word i) (sym h.0)
  one_set i is (inr h) =
      ap (λ (n : ℕ). n == 1) (bit_at_set_other w64 word place within i h.1) ∙ ap (λ (b : Bool). if b then bit else is_set word i) (sym h.0)

  pub with_set : (i : ℕ) → bit ≡ true → is_set (bit_or word (1 * 2 ^ place % 2 ^ 64)) i ≡ (if i == place then bit else is_set word i)
  with_set i is = one_set i is (eqb_tells i place)

  one_cleared : (i : ℕ) → i < 64 → bit ≡ false → ((i == place) ≡ true) × (i ≡ place) ⊎ ((i == place) ≡ false) × (i ≢ place) → is_set (bit_and word (bit_not w64 (1 * 2 ^ place % 2 ^ 64))) i ≡ (if i == place then bit else is_set word i)
  one_cleared i lt is (inl h) =
      ap (λ (j : ℕ). is_set (bit_and word (bit_not w64 (1 * 2 ^ place % 2 ^ 64))) j) h.1 ∙ ap (λ (n : ℕ). n == 1) (bit_at_clear_same w64 word place within) ∙ sym is
      ∙ ap (λ (b : Bool). if b then bit else is_set word i) (sym h.0)
  one_cleared i lt is (inr h) =
      ap (λ (n : ℕ). n == 1) (bit_at_clear_other w64 word place within i lt h.1) ∙ ap (λ (b : Bool). if b then bit else is_set word i) (sym h.0)

  pub with_cleared : (i : ℕ) → i < 64 → bit ≡ false → is_set (bit_and word (bit_not w64 (1 * 2 ^ place % 2 ^ 64))) i ≡ (if i == place then bit else is_set word i)
  with_cleared i lt is = one_cleared i lt is (eqb_tells i place)

-- ---- the lowest bit

-- before the first bit is taken none was passed
pub from_none : (xs : List ℕ) → map (λ (i : ℕ). 0 + i) xs ≡ xs
from_none [] = refl
from_none (x ∷ xs) = ap₂ (λ (a : ℕ) (rest : List ℕ). a ∷ rest) (let e : 0 + x ≡ x = omega arith in e) (from_none xs)

-- a word without its lowest bits
pub set_passed : (n t i : ℕ) → is_set (n / 2 ^ t / 2) i ≡ is_set n (t + 1 + i)
set_passed n t i = ap (λ (m : ℕ). m % 2 == 1) (ap (λ (m : ℕ). m / 2 ^ i) (shr-shr n t 1) ∙ shr-shr n (t + 1) i)

pub none_set : (i : ℕ) → is_set 0 i ≡ false
none_set i = ap (λ (n : ℕ). n == 1) (bit_at-zero i)

nothing : (n : ℕ) → n ≡ 64 → set_in 0 ≡ []
nothing n e = set_are 0 n e ∙ none_of_range (is_set 0) 0 n (λ i low high. none_set i)

pub left_nothing : (rest place : ℕ) → rest ≡ 0 → map (λ (i : ℕ). place + i) (set_in rest) ≡ []
left_nothing rest place e = ap (λ (r : ℕ). map (λ (i : ℕ). place + i) (set_in r)) e ∙ ap (map (λ (i : ℕ). place + i)) (nothing 64 refl)

not_one : (n : ℕ) → n ≡ 0 → (n == 1) ≡ false
not_one n e = ap (λ (m : ℕ). m == 1) e

is_one : (n : ℕ) → n ≡ 1 → (n == 1) ≡ true
is_one n e = ap (λ (m : ℕ). m == 1) e

-- a word whose lowest bit is at place t has that one, and those of the rest behind it
lowest_first : (word t n : ℕ) → n ≡ 64 → t < n → ((i : ℕ) → n ≤ i → is_set word i ≡ false) → ((i : ℕ) → i < t → is_set word i ≡ false) → is_set word t ≡ true
    → set_in word ≡ t ∷ map (λ (i : ℕ). t + 1 + i) (set_in (word / 2 ^ t / 2))
lowest_first word t n e lt above below holds =
    let after = n - (t + 1) in
    let rest = word / 2 ^ t / 2 in
    let none : (i : ℕ) → after ≤ i → is_set rest i ≡ false = λ i le. set_passed word t i ∙ above (t + 1 + i) (omega (arith, le)) in
    let behind : map (λ (i : ℕ). t + 1 + i) (set_in rest) ≡ filter (is_set word) (range_with_len (t + 1 + 0) after) =
    ap (map (λ (i : ℕ). t + 1 + i)) (set_are rest n e ∙ up_to (is_set rest) after n (omega arith) none ∙ same_of_range (is_set rest) (λ (i : ℕ). is_set word (t + 1 + i)) 0 after (λ i low high. set_passed word t i))
    ∙ shifted (is_set word) (t + 1) 0 after in
    set_are word n e
    ∙ first_of_range (is_set word) 0 t n lt (λ i low high. below i (omega (arith, high))) (ap (is_set word) (let h : 0 + t ≡ t = omega arith in h) ∙ holds)
    ∙ ap (λ (k : ℕ). k ∷ filter (is_set word) (range_with_len (k + 1) after)) (let h : 0 + t ≡ t = omega arith in h)
    ∙ ap (λ (a : ℕ). t ∷ filter (is_set word) (range_with_len a after)) (let h : t + 1 ≡ t + 1 + 0 = omega arith in h)
    ∙ ap (λ (xs : List ℕ). t ∷ xs) (sym behind)

module _ (rest place : ℕ) (some : 0 < rest) (small : rest < 2 ^ 64) (none : (i : ℕ) → 64 ≤ place + i → is_set rest i ≡ false) where
  lowest : ℕ
  lowest = trailing_zeros w64 rest

  its_bit : is_set rest (trailing_zeros w64 rest) ≡ true
  its_bit = is_one (bit_at rest (trailing_zeros w64 rest)) (bit_at-trailing_zeros w64 rest some small).1

  side : (n : ℕ) → (n < 64) ⊎ (64 ≤ n)
  side n = grind arith

  within_by : (place + trailing_zeros w64 rest < 64) ⊎ (64 ≤ place + trailing_zeros w64 rest) → place + trailing_zeros w64 rest < 64
  within_by (inl lt) = lt
  within_by (inr le) = absurd (let e : true ≡ false = sym its_bit ∙ none (trailing_zeros w64 rest) le in cc)

  pub lowest_within : place + trailing_zeros w64 rest < 64
  lowest_within = within_by (side (place + trailing_zeros w64 rest))

  -- what is left behind the lowest bit has none behind the 64th
  pub none_left : (i : ℕ) → 64 ≤ place + trailing_zeros w64 rest + 1 + i → is_set (rest / 2 ^ trailing_zeros w64 rest / 2) i ≡ false
  none_left i le = set_passed rest (trailing_zeros w64 rest) i ∙ none (trailing_zeros w64 rest + 1 + i) (omega (arith, le))

  pub left_next : map (λ (i : ℕ). place + i) (set_in rest) ≡ (place + trailing_zeros w64 rest) ∷ map (λ (i : ℕ). place + trailing_zeros w64 rest + 1 + i) (set_in (rest / 2 ^ trailing_zeros w64 rest / 2))
  left_next =
      let t = trailing_zeros w64 rest in
      let fact = bit_at-trailing_zeros w64 rest some small in
      let after = set_in (rest / 2 ^ t / 2) in
      ap (map (λ (i : ℕ). place + i)) (lowest_first rest t 64 refl fact.0 (λ i le. none i (omega (arith, le))) (λ i lt. not_one (bit_at rest i) (fact.2 i lt)) its_bit)
      ∙ ap (λ (xs : List ℕ). (place + t) ∷ xs) (map-map (λ (i : ℕ). place + i) (λ (i : ℕ). t + 1 + i) after ∙ ap (λ (f : ℕ → ℕ). map f after) (fun_ext (λ i. let e : place + (t + 1 + i) ≡ place + t + 1 + i = omega arith in e)))
