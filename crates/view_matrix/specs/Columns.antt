-- Inside: how a column lies in words of 64 bits. Edge e is bit e % 64 of word e / 64.
use Rattle.std.specs.Prelude.{◌≡◌, ℕ, ◌+◌, ◌*◌, ◌/◌, ◌%◌, ◌≤◌, ◌==◌, Bool, false, List, length, map, filter, get_or}
use Rattle.std.specs.List.{range_with_len}
use Rattle.std.specs.Int.{bit_at}
use Rattle.std.specs.Simd.Lanes.{mask_l}

-- whether a bit of a word is set
abbrev pub is_set : ℕ → ℕ → Bool
is_set word i = bit_at word i == 1

-- the bit of an edge
abbrev pub bit_in : List ℕ → ℕ → Bool
bit_in words e = is_set (get_or words (e / 64) 0) (e % 64)

-- whether the bit at a place is set; past the end none is
abbrev pub at : List Bool → ℕ → Bool
at bits e = get_or bits e false

-- the edges of a word
unfoldable pub places : ℕ → List ℕ
places k = range_with_len (64 * k) 64

-- this word of a column whose bits these are
unfoldable pub word_of : (ℕ → Bool) → ℕ → ℕ
word_of bit k = mask_l (map bit (places k))

-- the places of the bits that are set in a word, from the lowest on
unfoldable pub set_in : ℕ → List ℕ
set_in word = filter (is_set word) (range_with_len 0 64)

-- these are the words of a column
pub record AreWords (bits : List Bool) (words : List ℕ) : Type 0 where
  pub few : length bits ≤ 4_000_000
  pub count : length words ≡ (length bits + 63) / 64
  pub each : (k : ℕ) → get_or words k 0 ≡ word_of (at bits) k
