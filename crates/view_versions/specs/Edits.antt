-- Edges that come and go between two versions of a matrix.
use Rattle.std.specs.Prelude.{◌≡◌, ◌<◌, ℕ, Bool, not, List, length, map, filter, All}
use Rattle.graph_model.specs.declared.number.EdgeNo.{EdgeNo}
use Rattle.view_matrix.specs.Matrices.{MatrixData, live_of, rule_bit_of, with_changes}

-- a change that is taken back
abbrev pub turned_round : EdgeNo × Bool → EdgeNo × Bool
turned_round change = (change.0, not change.1)

-- the matrix with these changes taken back
abbrev pub taken_back : MatrixData → List (EdgeNo × Bool) → MatrixData
taken_back m changes = with_changes m (map turned_round changes)

-- each of them says of an edge of the matrix whether it is live there
pub record AreEdits (m : MatrixData) (changes : List (EdgeNo × Bool)) : Type 0 where
  pub within : All (λ c. c.0.0 < length m.live) changes
  pub live : All (λ c. c.1 ≡ live_of m c.0.0) changes

-- the edges that came or went
abbrev pub changed_edges : List (EdgeNo × Bool) → List EdgeNo
changed_edges changes = map (λ c. c.0) changes

-- those of them that a view turns on or off: its rule holds of them
abbrev pub turned_in : MatrixData → List (EdgeNo × Bool) → ℕ → List EdgeNo
turned_in m changes v = filter (λ e. rule_bit_of m e.0 v) (changed_edges changes)
