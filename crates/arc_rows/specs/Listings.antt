-- What is kept of the arcs of a view from a step to the next.
use Rattle.std.specs.Prelude.{⊤, ℕ, Bool, List, length, IfSome}
use Rattle.graph_model.specs.declared.number.NodeNo.{NodeNo}
use Rattle.graph_model.specs.GraphData.{GraphData}
use Rattle.vertex_lang.specs.declared.arc.Arc.{Arc}
use Rattle.arc_rows.specs.declared.live.Live.{Live}
use Rattle.message_forms.specs.declared.edge_step.Link.{Link}
use Rattle.arc_rows.specs.declared.cached.Listed.{Listed}
use Rattle.arc_rows.specs.declared.cached.CachedArcs.{CachedArcs}
use Rattle.arc_rows.specs.Counts.{AreCounted}
use Rattle.arc_rows.specs.Links.{tail_of, link_of}
use Rattle.arc_rows.specs.Lives.{AreLive}
use Rattle.message_forms.specs.Forms.{AreProper}
use Rattle.arc_rows.specs.declared.cached.Listed.TheVariants as listings

-- the tails of the arcs of the view
abbrev pub AreTails : GraphData → List Arc → List Bool → Live NodeNo → Type 0
AreTails graph all edges live = AreLive tail_of all edges (length graph.ids) live

-- the tails of the arcs of the view, each with a property of the edge
pub record AreLinks (graph : GraphData) (all : List Arc) (edges : List Bool) (column : ℕ) (live : Live Link) : Type 0 where
  pub rows : AreLive (link_of graph column) all edges (length graph.ids) live
  pub proper : AreProper graph column

-- what is kept is that of the view
abbrev pub IsListed : GraphData → List Arc → List Bool → Listed → Type 0
IsListed graph all edges listings.Nothing = ⊤
IsListed graph all edges (listings.Tails live) = AreTails graph all edges live
IsListed graph all edges (listings.Links column live) = AreLinks graph all edges column live

-- and the view is the one whose edges are told; and so many of its arcs leave each node
pub record AreCached (graph : GraphData) (all : List Arc) (cached : CachedArcs) : Type 0 where
  pub listed : IsListed graph all cached.edges.items cached.listed
  pub counted : IfSome cached.degrees (λ d. AreCounted graph all cached.edges.items d.items)
