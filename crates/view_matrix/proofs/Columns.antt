-- A column, by its words.
use Rattle.std.proofs.Common.{◌≡◌, ◌≢◌, ◌∙◌, ◌+◌, ◌*◌, ◌/◌, ◌%◌, ◌^◌, ◌<◌, ◌≤◌, ◌==◌, ◌⊎◌, inl, inr, ℕ, zero, suc, Bool, true, false, if◌then◌else◌, List, length, map, get_or, set, replicate, refl, sym, ap, ap₂, arith, get_or-set_same, get_or-set_other}
use Rattle.std.specs.List.{range_with_len}
use Rattle.std.proofs.Math.ListN.{length-set}
use Rattle.std.proofs.lemmas.List.{get_or_past}
use Rattle.std.proofs.lemmas.List.FromFn.{get_or-map-range_with_len, length-map-range_with_len, fill_by_all}
use Rattle.std.proofs.lemmas.Nat.Bits.{bit_at-zero}
use Rattle.std.proofs.lemmas.Bool.Decides.{eqb_tells}
use Rattle.view_matrix.specs.Columns.{at, bit_in, is_set, AreWords}
use Rattle.view_matrix.proofs.Ranges.{all_false}
use Rattle.view_matrix.proofs.Words.{word_from_bits}

abbrev pub bits : List ℕ → ℕ → List Bool
bits words len = map (bit_in words) (range_with_len 0 len)

pub bits_len : (words : List ℕ) (len : ℕ) → length (bits words len) ≡ len
bits_len words len = length-map-range_with_len (bit_in words) 0 len

side : (e len : ℕ) → (e < len) ⊎ (len ≤ e)
side e len = grind arith

-- a bit of a column, by its word
pub at_within : (words : List ℕ) (len e : ℕ) → e < len → at (bits words len) e ≡ bit_in words e
at_within words len e lt = get_or-map-range_with_len (bit_in words) 0 len e e false lt (omega arith)

at_by : (words : List ℕ) (len e : ℕ) → ((x : ℕ) → len ≤ x → bit_in words x ≡ false) → (e < len) ⊎ (len ≤ e) → at (bits words len) e ≡ bit_in words e
at_by words len e behind (inl lt) = at_within words len e lt
at_by words len e behind (inr le) = get_or_past (bits words len) e false (omega (arith, bits_len words len, le)) ∙ sym (behind e le)

pub at_bits : (words : List ℕ) (len e : ℕ) → ((x : ℕ) → len ≤ x → bit_in words x ≡ false) → at (bits words len) e ≡ bit_in words e
at_bits words len e behind = at_by words len e behind (side e len)

-- ---- the words

in_place : (words : List ℕ) (k i : ℕ) → i < 64 → bit_in words (64 * k + i) ≡ is_set (get_or words k 0) i
in_place words k i lt = ap₂ (λ (a b : ℕ). is_set (get_or words a 0) b) (let e : (64 * k + i) / 64 ≡ k = omega (arith, lt) in e) (let e : (64 * k + i) % 64 ≡ i = omega (arith, lt) in e)

pub words_of : (words : List ℕ) (len : ℕ) → len ≤ 4_000_000 → length words ≡ (len + 63) / 64 → ((x : ℕ) → len ≤ x → bit_in words x ≡ false) → ((k : ℕ) → get_or words k 0 < 2 ^ 64) → AreWords (bits words len) words
words_of words len few count behind small = record {
  few = omega (arith, few, bits_len words len);
  count = count ∙ ap (λ (n : ℕ). (n + 63) / 64) (sym (bits_len words len));
  each = λ k. word_from_bits (at (bits words len)) k (get_or words k 0) (small k) (λ i lt. sym (at_bits words len (64 * k + i) behind ∙ in_place words k i lt));
}

-- ---- the empty column

abbrev nothing : ℕ → List ℕ
nothing n = replicate n zero

zeros : (n k : ℕ) → get_or (nothing n) k zero ≡ zero
zeros zero k = refl
zeros (suc n) zero = refl
zeros (suc n) (suc k) = zeros n k

empty_bit : (n e : ℕ) → bit_in (nothing n) e ≡ false
empty_bit n e = ap (λ (w : ℕ). is_set w (e % 64)) (zeros n (e / 64)) ∙ ap (λ (m : ℕ). m == 1) (bit_at-zero (e % 64))

pub no_bit : (words : List ℕ) (n : ℕ) → words ≡ nothing n → (e : ℕ) → bit_in words e ≡ false
no_bit words n is e = ap (λ (ws : List ℕ). bit_in ws e) is ∙ empty_bit n e

pub no_bits : (words : List ℕ) (n len : ℕ) → words ≡ nothing n → bits words len ≡ replicate len false
no_bits words n len is = all_false (bit_in words) 0 len (no_bit words n is)

pub no_word : (words : List ℕ) (n : ℕ) → words ≡ nothing n → (k : ℕ) → get_or words k zero < 2 ^ 64
no_word words n is k = omega (arith, ap (λ (ws : List ℕ). get_or ws k zero) is, zeros n k)

-- ---- one bit changed

small_by : (words : List ℕ) (e new k : ℕ) → e < length words → new < 2 ^ 64 → get_or words k 0 < 2 ^ 64 → ((k == e) ≡ true) × (k ≡ e) ⊎ ((k == e) ≡ false) × (k ≢ e) → get_or (set words e new) k 0 < 2 ^ 64
small_by words e new k within small so_far (inl h) = omega (arith, ap (λ (j : ℕ). get_or (set words e new) j 0) h.1, get_or-set_same words e new 0 within, small)
small_by words e new k within small so_far (inr h) = omega (arith, get_or-set_other words e k new 0 h.1, so_far)

pub small_changed : (words : List ℕ) (e new : ℕ) → e < length words → new < 2 ^ 64 → ((k : ℕ) → get_or words k 0 < 2 ^ 64) → (k : ℕ) → get_or (set words e new) k 0 < 2 ^ 64
small_changed words e new within small so_far k = small_by words e new k within small (so_far k) (eqb_tells k e)

module _ (words : List ℕ) (e new : ℕ) (bit : Bool) (within : e / 64 < length words)
    (is : (i : ℕ) → i < 64 → is_set new i ≡ (if i == e % 64 then bit else is_set (get_or words (e / 64) 0) i)) where
  same_place : (x : ℕ) → x / 64 ≡ e / 64 → ((x == e) ≡ true) × (x ≡ e) ⊎ ((x == e) ≡ false) × (x ≢ e) → ((x % 64 == e % 64) ≡ true) × (x % 64 ≡ e % 64) ⊎ ((x % 64 == e % 64) ≡ false) × (x % 64 ≢ e % 64) → (x % 64 == e % 64) ≡ (x == e)
  same_place x q (inl h) (inl g) = g.0 ∙ sym h.0
  same_place x q (inl h) (inr g) = absurd (g.1 (ap (λ (n : ℕ). n % 64) h.1))
  same_place x q (inr h) (inl g) = absurd (h.1 (omega (arith, q, g.1)))
  same_place x q (inr h) (inr g) = g.0 ∙ sym h.0

  changed_by : (x : ℕ) → ((x / 64 == e / 64) ≡ true) × (x / 64 ≡ e / 64) ⊎ ((x / 64 == e / 64) ≡ false) × (x / 64 ≢ e / 64) → ((x == e) ≡ true) × (x ≡ e) ⊎ ((x == e) ≡ false) × (x ≢ e)
      → bit_in (set words (e / 64) new) x ≡ (if x == e then bit else bit_in words x)
  changed_by x (inl q) h =
      ap (λ (k : ℕ). is_set (get_or (set words (e / 64) new) k 0) (x % 64)) q.1
      ∙ ap (λ (w : ℕ). is_set w (x % 64)) (get_or-set_same words (e / 64) new 0 within)
      ∙ is (x % 64) (omega arith)
      ∙ ap₂ (λ (b : Bool) (k : ℕ). if b then bit else is_set (get_or words k 0) (x % 64)) (same_place x q.1 h (eqb_tells (x % 64) (e % 64))) (sym q.1)
  changed_by x (inr q) (inl h) = absurd (q.1 (ap (λ (n : ℕ). n / 64) h.1))
  changed_by x (inr q) (inr h) =
      ap (λ (w : ℕ). is_set w (x % 64)) (get_or-set_other words (e / 64) (x / 64) new 0 q.1)
      ∙ ap (λ (b : Bool). if b then bit else bit_in words x) (sym h.0)

  pub changed : (x : ℕ) → bit_in (set words (e / 64) new) x ≡ (if x == e then bit else bit_in words x)
  changed x = changed_by x (eqb_tells (x / 64) (e / 64)) (eqb_tells x e)

  behind_by : (len x : ℕ) → e < len → len ≤ x → bit_in words x ≡ false → ((x == e) ≡ true) × (x ≡ e) ⊎ ((x == e) ≡ false) × (x ≢ e) → bit_in (set words (e / 64) new) x ≡ false
  behind_by len x lt le none (inl h) = absurd (omega (arith, lt, le, h.1))
  behind_by len x lt le none (inr h) = changed x ∙ ap (λ (b : Bool). if b then bit else bit_in words x) h.0 ∙ none

  pub behind_changed : (len : ℕ) → e < len → ((x : ℕ) → len ≤ x → bit_in words x ≡ false) → (x : ℕ) → len ≤ x → bit_in (set words (e / 64) new) x ≡ false
  behind_changed len lt behind x le = behind_by len x lt le (behind x le) (eqb_tells x e)

  set_by : (len x : ℕ) → e < len → x < len → ((x == e) ≡ true) × (x ≡ e) ⊎ ((x == e) ≡ false) × (x ≢ e) → get_or (set (bits words len) e bit) x false ≡ bit_in (set words (e / 64) new) x
  set_by len x lt within_x (inl h) =
      ap (λ (k : ℕ). get_or (set (bits words len) e bit) k false) h.1 ∙ get_or-set_same (bits words len) e bit false (omega (arith, bits_len words len, lt))
      ∙ ap (λ (b : Bool). if b then bit else bit_in words x) (sym h.0) ∙ sym (changed x)
  set_by len x lt within_x (inr h) =
      get_or-set_other (bits words len) e x bit false h.1 ∙ at_within words len x within_x
      ∙ ap (λ (b : Bool). if b then bit else bit_in words x) (sym h.0) ∙ sym (changed x)

  pub bits_changed : (len : ℕ) → e < len → bits (set words (e / 64) new) len ≡ set (bits words len) e bit
  bits_changed len lt =
      sym (fill_by_all (bit_in (set words (e / 64) new)) (set (bits words len) e bit) len false (length-set (bits words len) e bit ∙ bits_len words len) (λ x within_x. set_by len x lt within_x (eqb_tells x e)))
