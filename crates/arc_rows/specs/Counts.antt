-- How many arcs of a view leave each node, as they are counted.
use Rattle.std.specs.Prelude.{◌≡◌, ◌<◌, ◌^◌, ℕ, Bool, true, List, length, get_or}
use Rattle.graph_model.specs.GraphData.{GraphData}
use Rattle.vertex_lang.specs.declared.arc.Arc.{Arc}
use Rattle.vertex_lang.specs.Arcs.{outdeg}
use Rattle.arc_rows.specs.declared.degrees.Degrees.{Degrees}
use Rattle.arc_rows.specs.Views.{arcs_in}

-- so many leave each node
pub record AreCounted (graph : GraphData) (all : List Arc) (edges : List Bool) (degrees : List ℕ) : Type 0 where
  pub size : length degrees ≡ length graph.ids
  pub each : (u : ℕ) → u < length graph.ids → get_or degrees u 0 ≡ outdeg (arcs_in all edges) u

-- the same where it's asked for, and else small numbers
pub record AreCountedIf (asked : Bool) (graph : GraphData) (all : List Arc) (edges : List Bool) (degrees : List ℕ) : Type 0 where
  pub size : length degrees ≡ length graph.ids
  pub small : (u : ℕ) → u < length graph.ids → get_or degrees u 0 < 2 ^ 32
  pub each : asked ≡ true → (u : ℕ) → u < length graph.ids → get_or degrees u 0 ≡ outdeg (arcs_in all edges) u

-- there is a small number for each node
pub record AreSmall (graph : GraphData) (degrees : List ℕ) : Type 0 where
  pub size : length degrees ≡ length graph.ids
  pub small : (u : ℕ) → u < length graph.ids → get_or degrees u 0 < 2 ^ 32

-- so there is in both lists
pub record ArePlain (graph : GraphData) (degrees : Degrees) : Type 0 where
  pub before : AreSmall graph degrees.old.items
  pub after : AreSmall graph degrees.new.items

-- in two views
pub record AreBoth (asked : Bool) (graph : GraphData) (all : List Arc) (old new : List Bool) (degrees : Degrees) : Type 0 where
  pub before : AreCountedIf asked graph all old degrees.old.items
  pub after : AreCountedIf asked graph all new degrees.new.items
