-- The arcs of all edges that are in one of two views alone, in rows.
use Rattle.std.specs.Prelude.{◌≡◌, ℕ, Bool, false, List, length, All, Contains}
use Rattle.graph_model.specs.GraphData.{GraphData}
use Rattle.vertex_lang.specs.declared.arc.Arc.{Arc}
use Rattle.vertex_lang.specs.Arcs.{IsArc}
use Rattle.arc_rows.specs.declared.turned.Turned.{Turned}
use Rattle.arc_rows.specs.RowLists.{IsGrouped}
use Rattle.arc_rows.specs.Views.{IsTurned}

-- they are arcs of the graph, in rows by one of their nodes; and where there's a view before, all turned ones are among them
pub record TellTurned (node_of : Arc → ℕ) (graph : GraphData) (all : List Arc) (first : Bool) (old new : List Bool) (turned : Turned) : Type 0 where
  pub rows : IsGrouped node_of turned.arcs turned.ends (length graph.ids)
  pub arcs : All (IsArc graph) turned.arcs
  pub each : first ≡ false → All (λ a. IsTurned old new a → Contains turned.arcs a) all
