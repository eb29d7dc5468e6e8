-- The flags of a view in two matrices, or of two views.
use Rattle.std.specs.Prelude.{◌≡◌, ◌<◌, ℕ, Bool, not, List, length, map, slice_set, All}
use Rattle.std.specs.List.{range_with_len}
use Rattle.graph_model.specs.declared.number.EdgeNo.{EdgeNo}
use Rattle.arc_rows.specs.Views.{TellsAll}
use Rattle.view_matrix.specs.Matrices.{MatrixData, IsView, bit_of, live_of}
use Rattle.view_versions.specs.declared.flags.Kept.{Kept}
use Rattle.view_versions.specs.declared.flags.TwoFlags.{TwoFlags}

-- of each edge whether it stands in the view
abbrev pub flags_of : MatrixData → ℕ → List Bool
flags_of m v = map (λ e. bit_of m e v) (range_with_len 0 (length m.live))

-- flags with that of an edge as it was before the edge was made live, or not, as the matrix has it
abbrev pub with_former : MatrixData → List Bool → EdgeNo → List Bool
with_former m flags e = slice_set flags e.0 (not (live_of m e.0))

-- flags with that of an edge as it is in the view
abbrev pub with_bit : MatrixData → ℕ → List Bool → EdgeNo → List Bool
with_bit m v flags e = slice_set flags e.0 (bit_of m e.0 v)

-- flags with that of an edge as it is told
abbrev pub with_flag : List Bool → EdgeNo × Bool → List Bool
with_flag flags change = slice_set flags change.0.0 change.1

-- flags for each of so many edges, and edges among which are all whose two flags differ
pub record AreTwo (edges : ℕ) (two : TwoFlags) : Type 0 where
  pub old : length two.old.items ≡ edges
  pub new : length two.new.items ≡ edges
  pub within : All (λ e. e.0 < edges) two.turned
  pub tells : TellsAll two.old.items two.new.items two.turned

-- flags that are kept are those of a view, and others that differ from them at the edges beside them alone
pub record AreKept (m : MatrixData) (kept : Kept) : Type 0 where
  pub view : IsView m kept.view
  pub two : AreTwo (length m.live) kept.two
  pub new : kept.two.new.items ≡ flags_of m kept.view.0
