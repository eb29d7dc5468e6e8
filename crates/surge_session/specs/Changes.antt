-- Edges that come and go, as a list of changes.
use Rattle.std.specs.Prelude.{◌≡◌, ◌<◌, ◌≤◌, ℕ, Bool, true, not, ◌&&◌, List, length, map, fold, All, Some, slice_get}
use Rattle.std.specs.List.{range_with_len}
use Rattle.graph_model.specs.declared.number.EdgeNo.{EdgeNo}
use Rattle.graph_model.specs.GraphData.{GraphData}
use Rattle.edge_predicates.specs.declared.pred.Pred.{Pred}
use Rattle.edge_predicates.specs.Truth.{truth}
use Rattle.edge_predicates.specs.ViewEdges.{edge}
use Rattle.view_matrix.specs.Matrices.{MatrixData, live_of, with_live, with_changes}
use Rattle.surge_session.specs.Live.{is_live}

-- so many edges that come from this one on
abbrev pub inserted : (first count : ℕ) → List (EdgeNo × Bool)
inserted first count = map (λ e. (edge e, true)) (range_with_len first count)

-- each change turns an edge, and together they make this of it
pub record AreTurned (before after : List Bool) (changes : List (EdgeNo × Bool)) : Type 0 where
  pub within : All (λ c. c.0.0 < length before) changes
  pub turns : All (λ c. c.1 ≡ not (is_live before c.0.0)) changes
  pub gives : fold with_live before changes ≡ after

-- what is live where the first edges were looked at, of which those go of which a predicate holds
pub record HasRemoved (g : GraphData) (live : List Bool) (rule : Pred) (place : ℕ) (changes : List (EdgeNo × Bool)) : Type 0 where
  pub within : All (λ c. c.0.0 < place) changes
  pub turns : All (λ c. c.1 ≡ not (is_live live c.0.0)) changes
  pub low : (e : ℕ) → e < place → is_live (fold with_live live changes) e ≡ (is_live live e && not (truth g e rule))
  pub high : (e : ℕ) → place ≤ e → is_live (fold with_live live changes) e ≡ is_live live e

-- a matrix before these changes, each of which turns an edge there, and behind them
pub record IsEdited (before after : MatrixData) (changes : List (EdgeNo × Bool)) : Type 0 where
  pub within : All (λ c. c.0.0 < length before.live) changes
  pub turns : All (λ c. c.1 ≡ not (live_of before c.0.0)) changes
  pub gives : after ≡ with_changes before changes

-- the same of several
pub record AreEdited (before after : List MatrixData) (changes : List (EdgeNo × Bool)) : Type 0 where
  pub count : length after ≡ length before
  pub each : (place : ℕ) (m : MatrixData) → slice_get before place ≡ Some m → (x : MatrixData) × (slice_get after place ≡ Some x) × IsEdited m x changes
