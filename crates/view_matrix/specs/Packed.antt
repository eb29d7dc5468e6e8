-- Inside: what a column keeps.
use Rattle.std.specs.Prelude.{◌≡◌, ℕ, ◌+◌, ◌/◌, ◌<◌, ◌≤◌, ◌^◌, Bool, false, List, length, map, get_or}
use Rattle.std.specs.List.{range_with_len}
use Rattle.view_matrix.specs.declared.column.Column.TheInside.{Inside}
use Rattle.view_matrix.specs.Columns.{bit_in}

abbrev pub bits_of : Inside → List Bool
bits_of c = map (bit_in c.words.items) (range_with_len 0 c.len)

-- there are as many words as the bits need, and behind the last bit none is set
pub record IsPacked (c : Inside) : Type 0 where
  pub few : c.len ≤ 4_000_000
  pub count : length c.words.items ≡ (c.len + 63) / 64
  pub small : (k : ℕ) → get_or c.words.items k 0 < 2 ^ 64
  pub behind : (e : ℕ) → c.len ≤ e → bit_in c.words.items e ≡ false
