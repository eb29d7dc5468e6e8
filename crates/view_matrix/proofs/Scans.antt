-- Words and columns of the edges that meet bounds.
use Rattle.std.proofs.Common.{◌≡◌, ◌≢◌, ◌∙◌, ◌+◌, ◌-◌, ◌*◌, ◌/◌, ◌%◌, ◌^◌, ◌<◌, ◌≤◌, ◌==◌, ◌⊎◌, inl, inr, ℕ, zero, suc, Bool, true, false, ◌&&◌, ◌||◌, if◌then◌else◌, List, [], ◌∷◌, ◌++◌, length, map, get_or, take, refl, sym, ap, ap₂, arith, bit_and, bit_or, min}
use Rattle.std.specs.Prelude.{nat_lt}
use mir.Val.{bool_byte}
use Rattle.std.specs.List.{range_with_len, list_all}
use Rattle.std.specs.Int.{bit_at}
use Rattle.std.specs.Int.Bits.{or_zero_r}
use Rattle.std.proofs.lemmas.Bool.{lt-ltb, le-ltb, cases_lt}
use Rattle.std.proofs.lemmas.Bool.Decides.{eqb_tells}
use Rattle.std.proofs.lemmas.Nat.{shr-shr}
use Rattle.std.proofs.lemmas.Nat.Bits.{bit_at-zero, bit_at_ones, bit_at_ones_above}
use Rattle.std.proofs.lemmas.List.{take_more, get_or_past, get_or_push}
use Rattle.std.proofs.Math.ListN.{get_or-append}
use Rattle.std.proofs.lemmas.List.Folds.{list_all-append}
use Rattle.view_matrix.specs.Columns.{bit_in, is_set}
use Rattle.view_matrix.specs.Scans.{bits_up_to}
use Rattle.view_matrix.proofs.Bits.{with_set}
use Rattle.view_matrix.proofs.Words.{set_and, set_or}

-- ---- a bit more

or_false : (b : Bool) → (b || false) ≡ b
or_false true = refl
or_false false = refl

if_or : (c b : Bool) → (if c then true else b) ≡ (b || (true && c))
if_or true true = refl
if_or true false = refl
if_or false true = refl
if_or false false = refl

pub more_set : (word place i n : ℕ) (bit : Bool) → place < 64 → n ≡ bool_byte bit → is_set (bit_or word (n * 2 ^ place % 2 ^ 64)) i ≡ (is_set word i || (bit && i == place))
more_set word place i n true within is =
    ap (λ (k : ℕ). is_set (bit_or word (k * 2 ^ place % 2 ^ 64)) i) is ∙ with_set word place true within i refl ∙ if_or (i == place) (is_set word i)
more_set word place i n false within is =
    let none : 0 * 2 ^ place % 2 ^ 64 ≡ 0 = omega arith in
    ap (λ (k : ℕ). is_set (bit_or word (k * 2 ^ place % 2 ^ 64)) i) is ∙ ap (λ (k : ℕ). is_set (bit_or word k) i) none ∙ ap (λ (k : ℕ). is_set k i) (or_zero_r word)
    ∙ sym (or_false (is_set word i))

-- ---- a mask more

pub mask_taken : (word mask taken i : ℕ) (bit : Bool) → bit ≡ true → taken ≡ mask → is_set (bit_or word taken) i ≡ (is_set word i || (bit && is_set mask i))
mask_taken word mask taken i bit is same =
    ap (λ (k : ℕ). is_set (bit_or word k) i) same ∙ set_or word mask i ∙ ap (λ (b : Bool). is_set word i || (b && is_set mask i)) (sym is)

pub none_taken : (word mask taken i : ℕ) (bit : Bool) → bit ≡ false → taken ≡ 0 → is_set (bit_or word taken) i ≡ (is_set word i || (bit && is_set mask i))
none_taken word mask taken i bit is none =
    ap (λ (k : ℕ). is_set (bit_or word k) i) none ∙ ap (λ (k : ℕ). is_set k i) (or_zero_r word) ∙ sym (or_false (is_set word i))
    ∙ ap (λ (b : Bool). is_set word i || (b && is_set mask i)) (sym is)

-- ---- the lowest bits

is_one : (n : ℕ) → n ≡ 1 → (n == 1) ≡ true
is_one n e = ap (λ (m : ℕ). m == 1) e

not_one : (n : ℕ) → n ≡ 0 → (n == 1) ≡ false
not_one n e = ap (λ (m : ℕ). m == 1) e

lowest_by : (word k t count i : ℕ) → word ≡ 2 ^ k - 1 → t + count ≡ k → (i < count) ⊎ (count ≤ i) → is_set (word / 2 ^ t) i ≡ nat_lt i count
lowest_by word k t count i is all (inl lt) =
    is_one (bit_at (word / 2 ^ t) i) (ap (λ (m : ℕ). m % 2) (shr-shr word t i) ∙ ap (λ (w : ℕ). bit_at w (t + i)) is ∙ bit_at_ones k (t + i) (omega (arith, all, lt)))
    ∙ sym (lt-ltb i count lt)
lowest_by word k t count i is all (inr le) =
    not_one (bit_at (word / 2 ^ t) i) (ap (λ (m : ℕ). m % 2) (shr-shr word t i) ∙ ap (λ (w : ℕ). bit_at w (t + i)) is ∙ bit_at_ones_above k (t + i) (omega (arith, all, le)))
    ∙ sym (le-ltb i count le)

pub lowest_set : (word k t count i : ℕ) → word ≡ 2 ^ k - 1 → t + count ≡ k → is_set (word / 2 ^ t) i ≡ nat_lt i count
lowest_set word k t count i is all = lowest_by word k t count i is all (cases_lt i count)

-- ---- a word, edge by edge

pub none_yet : (p : ℕ → Bool) (i : ℕ) → is_set 0 i ≡ (nat_lt i 0 && p i)
none_yet p i = not_one (bit_at 0 i) (bit_at-zero i) ∙ sym (ap (λ (b : Bool). b && p i) (le-ltb i 0 (omega arith)))

edge_by : (p : ℕ → Bool) (place i : ℕ) (bit : Bool) → bit ≡ p place → ((i == place) ≡ true) × (i ≡ place) ⊎ ((i == place) ≡ false) × (i ≢ place) → (i < place) ⊎ (place ≤ i)
    → ((nat_lt i place && p i) || (bit && i == place)) ≡ (nat_lt i (place + 1) && p i)
edge_by p place i bit is (inl h) side =
    ap₂ (λ (a b : Bool). (a && p i) || (bit && b)) (le-ltb i place (omega (arith, h.1))) h.0
    ∙ one bit ∙ is ∙ ap p (sym h.1) ∙ sym (ap (λ (b : Bool). b && p i) (lt-ltb i (place + 1) (omega (arith, h.1)))) where
      one : (b : Bool) → (b && true) ≡ b
      one true = refl
      one false = refl
edge_by p place i bit is (inr h) (inl lt) =
    ap₂ (λ (a b : Bool). (a && p i) || (bit && b)) (lt-ltb i place lt) h.0
    ∙ one bit (p i) ∙ sym (ap (λ (b : Bool). b && p i) (lt-ltb i (place + 1) (omega (arith, lt)))) where
      one : (b q : Bool) → (q || (b && false)) ≡ q
      one true q = or_false q
      one false q = or_false q
edge_by p place i bit is (inr h) (inr le) =
    ap₂ (λ (a b : Bool). (a && p i) || (bit && b)) (le-ltb i place le) h.0
    ∙ one bit ∙ sym (ap (λ (b : Bool). b && p i) (le-ltb i (place + 1) (omega (arith, le, h.1)))) where
      one : (b : Bool) → (b && false) ≡ false
      one true = refl
      one false = refl

pub next_edge : (p : ℕ → Bool) (word new place i : ℕ) (bit : Bool) → bit ≡ p place → is_set word i ≡ (nat_lt i place && p i) → is_set new i ≡ (is_set word i || (bit && i == place))
    → is_set new i ≡ (nat_lt i (place + 1) && p i)
next_edge p word new place i bit is so_far more =
    more ∙ ap (λ (b : Bool). b || (bit && i == place)) so_far ∙ edge_by p place i bit is (eqb_tells i place) (cases_lt i place)

-- ---- bounds by bounds

no_bounds : (b : Bool) → b ≡ (b && true)
no_bounds true = refl
no_bounds false = refl

joined : (a b c : Bool) → ((a && b) && (a && c)) ≡ (a && (b && c))
joined true b c = refl
joined false b c = refl

pub next_bounds : {X : Type 0} (p : X → Bool) (xs : List X) (k : ℕ) (d : X) (word more i count : ℕ) → k < length xs → is_set word i ≡ (nat_lt i count && list_all p (take k xs)) → is_set more i ≡ (nat_lt i count && p (get_or xs k d))
    → is_set (bit_and word more) i ≡ (nat_lt i count && list_all p (take (k + 1) xs))
next_bounds {X} p xs k d word more i count lt so_far one =
    set_and word more i ∙ ap₂ (λ (a b : Bool). a && b) so_far one ∙ joined (nat_lt i count) (list_all p (take k xs)) (p (get_or xs k d))
    ∙ ap (λ (b : Bool). nat_lt i count && b)
    (sym (ap (list_all p) (take_more xs k d lt) ∙ list_all-append p (take k xs) (get_or xs k d ∷ [])
    ∙ ap (λ (b : Bool). list_all p (take k xs) && b) (sym (no_bounds (p (get_or xs k d))))))

-- ---- a column, word by word

module _ (p : ℕ → Bool) (len k count word : ℕ) (words : List ℕ) (all : length words ≡ k) (room : 64 * k ≤ len) (few : count ≡ min (len - 64 * k) 64)
    (of_word : (i : ℕ) → is_set word i ≡ (nat_lt i count && p (64 * k + i))) where
  in_word : (i : ℕ) → i < 64 → (i < count) ⊎ (count ≤ i) → nat_lt i count ≡ nat_lt (64 * k + i) len
  in_word i low (inl lt) = lt-ltb i count lt ∙ sym (lt-ltb (64 * k + i) len (omega (arith, few, lt, room)))
  in_word i low (inr le) = le-ltb i count le ∙ sym (le-ltb (64 * k + i) len (omega (arith, few, le, room, low)))

  word_bit : (e : ℕ) → e / 64 ≡ k → is_set word (e % 64) ≡ (nat_lt e len && p e)
  word_bit e at =
      let i = e % 64 in
      let low : i < 64 = omega arith in
      let is : 64 * k + i ≡ e = omega (arith, at) in
      of_word i ∙ ap (λ (b : Bool). b && p (64 * k + i)) (in_word i low (cases_lt i count)) ∙ ap (λ (x : ℕ). nat_lt x len && p x) is

  next_by : (e : ℕ) → bits_up_to p len k words → e < 64 * (k + 1) → (e < 64 * k) ⊎ (64 * k ≤ e) → bit_in (words ++ word ∷ []) e ≡ (nat_lt e len && p e)
  next_by e so_far lt (inl before) =
      ap (λ (w : ℕ). is_set w (e % 64)) (get_or-append words (word ∷ []) 0 (e / 64) (omega (arith, all, before))) ∙ so_far e before
  next_by e so_far lt (inr behind) =
      let at : e / 64 ≡ k = omega (arith, lt, behind) in
      ap (λ (w : ℕ). is_set w (e % 64)) (get_or_push words word 0 (e / 64) (all ∙ sym at)) ∙ word_bit e at

  pub next_word : bits_up_to p len k words → bits_up_to p len (k + 1) (words ++ word ∷ [])
  next_word so_far e lt = next_by e so_far lt (cases_lt e (64 * k))

module _ (p : ℕ → Bool) (len k : ℕ) (words : List ℕ) (all : length words ≡ k) (so_far : bits_up_to p len k words) where
  behind_by : (e : ℕ) → len ≤ e → (e < 64 * k) ⊎ (64 * k ≤ e) → bit_in words e ≡ false
  behind_by e le (inl lt) = so_far e lt ∙ ap (λ (b : Bool). b && p e) (le-ltb e len le)
  behind_by e le (inr past) = ap (λ (w : ℕ). is_set w (e % 64)) (get_or_past words (e / 64) 0 (omega (arith, all, past))) ∙ not_one (bit_at 0 (e % 64)) (bit_at-zero (e % 64))

  pub none_behind : (e : ℕ) → len ≤ e → bit_in words e ≡ false
  none_behind e le = behind_by e le (cases_lt e (64 * k))

  same_map : (a n : ℕ) → a + n ≡ len → len ≤ 64 * k → map (bit_in words) (range_with_len a n) ≡ map p (range_with_len a n)
  same_map a zero is le = refl
  same_map a (suc n) is le =
      ap₂ (λ (b : Bool) (bs : List Bool). b ∷ bs) (so_far a (omega (arith, is, le)) ∙ ap (λ (b : Bool). b && p a) (lt-ltb a len (omega (arith, is)))) (same_map (a + 1) n (omega (arith, is)) le)

  pub all_bits : len ≤ 64 * k → map (bit_in words) (range_with_len 0 len) ≡ map p (range_with_len 0 len)
  all_bits le = same_map 0 len (omega arith) le
