-- Inside: bounds of the number that an edge has in a column.
use Rattle.std.specs.Prelude.{◌≡◌, ℕ, ℤ, pos, ◌<◌, Bool, false, not, ◌&&◌, ◌||◌, if◌then◌else◌, List, All, int_le}
use Rattle.std.specs.List.{list_all}
use Rattle.graph_model.specs.GraphData.{GraphData, Cell, lowest_number}
use Rattle.edge_predicates.specs.Truth.{edge_place}
use Rattle.view_matrix.specs.declared.bounds.Bounds.{Bounds}

-- the greatest of the code's numbers
abbrev pub highest_number : ℤ
highest_number = pos 9_223_372_036_854_775_807

-- A bound at the end of the code's numbers is none.
abbrev pub lies_within : ℤ → ℤ → ℤ → Bool
lies_within low high z = (int_le low lowest_number || int_le low z) && (int_le highest_number high || int_le z high)

abbrev pub admits : Bounds → ℤ → Bool
admits b z = if b.inside then lies_within b.low b.high z else not (lies_within b.low b.high z)

-- a cell that is no number meets no bounds
abbrev pub meets : Bounds → Cell → Bool
meets b (Cell.int z) = admits b z
meets b _ = false

-- whether an edge meets the bounds, by its cell in their column
abbrev pub meets_at : GraphData → ℕ → Bounds → Bool
meets_at g e b = meets b (edge_place g e b.column)

abbrev pub all_meet : GraphData → ℕ → List Bounds → Bool
all_meet g e bounds = list_all (meets_at g e) bounds

-- each is of one of so many columns
abbrev pub AreOf : ℕ → List Bounds → Type 0
AreOf columns bounds = All (λ b. b.column < columns) bounds

-- these bounds say what those say, and that this holds of an edge, too
pub record Adds (columns : ℕ) (old new : List Bounds) (holds : GraphData → ℕ → Bool) : Type 0 where
  pub of_columns : AreOf columns old → AreOf columns new
  pub means : (g : GraphData) (e : ℕ) → all_meet g e new ≡ (all_meet g e old && holds g e)
