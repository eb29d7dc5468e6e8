-- Inside: what a matrix keeps.
use Rattle.std.specs.Prelude.{◌≡◌, ◌≤◌, length, All}
use Rattle.view_matrix.specs.declared.matrix.Matrix.TheInside.{Inside}
use Rattle.view_matrix.specs.Matrices.{MatrixData}

abbrev pub data_of : Inside → MatrixData
data_of m = record { live = m.live; columns = m.columns.items }

pub record IsMatrix (m : Inside) : Type 0 where
  pub few_edges : length m.live ≤ 4_000_000
  pub few_views : length m.columns.items ≤ 1_024
  pub all : All (λ column. length column ≡ length m.live) m.columns.items
