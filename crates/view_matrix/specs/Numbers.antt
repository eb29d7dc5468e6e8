-- Inside: the numbers that some edges have in a column.
use Rattle.std.specs.Prelude.{◌≡◌, ℕ, ℤ, pos, ◌+◌, ◌<◌, ◌≤◌, ◌&&◌, ◌==◌, nat_lt, List, length, get_or}
use Rattle.graph_model.specs.GraphData.{GraphData}
use Rattle.edge_predicates.specs.Truth.{edge_place}
use Rattle.view_matrix.specs.declared.bounds.Bounds.{Bounds}
use Rattle.view_matrix.specs.declared.numbers.Numbers.{Numbers}
use Rattle.view_matrix.specs.Columns.{is_set}
use Rattle.view_matrix.specs.Bounds.{admits, meets}

-- Of each of so many edges from the first on: where it has a number in the column, the bit at its place is set, and
-- the number stands at its place. Behind them no bit is set.
abbrev pub ShowCells : GraphData → ℕ → ℕ → ℕ → List ℤ → ℕ → Type 0
ShowCells g first count column numbers present = (b : Bounds) (i : ℕ) → i < 64 → (is_set present i && admits b (get_or numbers i (pos 0))) ≡ (nat_lt i count && meets b (edge_place g (first + i) column))

-- for each of 64 places the word of which the bit at that place alone is set
pub record AreMasks (masks : List ℕ) : Type 0 where
  pub long : length masks ≡ 64
  pub alone : (place i : ℕ) → place < 64 → is_set (get_or masks place 0) i ≡ (i == place)

pub record AreNumbers (g : GraphData) (n : Numbers) : Type 0 where
  pub few : n.count ≤ 64
  pub long : length n.numbers.items ≡ 64
  pub shown : ShowCells g n.first n.count n.column n.numbers.items n.present
  pub masks : AreMasks n.masks.items

-- they are those of so many edges from the first on
pub record AreOfEdges (n : Numbers) (column first count : ℕ) : Type 0 where
  pub column_is : n.column ≡ column
  pub first_is : n.first ≡ first
  pub count_is : n.count ≡ count
