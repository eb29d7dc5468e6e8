-- Inside: the edges of views as groups see them.
use Rattle.std.specs.Prelude.{◌≡◌, ℕ, Bool, false, List, length, map, Option}
use Rattle.std.specs.List.{range_with_len}
use Rattle.graph_model.specs.GraphData.{GraphData}
use Rattle.view_matrix.specs.Matrices.{MatrixData, column_bit}
use Rattle.aggregate_views.specs.declared.cell.GroupRow.{GroupRow}
use Rattle.aggregate_views.specs.Inside.{GroupsData}
use Rattle.aggregate_views.specs.Rows.{present_edges, rows_of}

-- of each edge whether it stands in a view that may be none
abbrev pub bits_of : MatrixData → Option ℕ → List Bool
bits_of m view = map (column_bit m view) (range_with_len 0 (length m.live))

-- the rows of the edges that groups hold
abbrev pub held_rows : GroupsData → List GroupRow
held_rows groups = rows_of groups.graph groups.column groups.sum (present_edges groups.present)

-- groups by these columns hold the edges of the view, after so many changes
pub record AreGroupsOf (g : GraphData) (by : ℕ) (summed : Option ℕ) (m : MatrixData) (view : Option ℕ) (count : ℕ) (groups : GroupsData) : Type 0 where
  pub graph : groups.graph ≡ g
  pub column : groups.column ≡ by
  pub sum : groups.sum ≡ summed
  pub present : groups.present ≡ bits_of m view
  pub applied : groups.applied ≡ count
  pub fresh : groups.spent ≡ false
