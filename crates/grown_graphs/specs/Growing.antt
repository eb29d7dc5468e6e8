-- A graph, and one with more edges behind its own.
use Rattle.std.specs.Prelude.{◌≡◌, ◌≤◌, ◌<◌, ℕ, List, length, All}
use Rattle.graph_model.specs.declared.number.EdgeNo.{EdgeNo}
use Rattle.graph_model.specs.GraphData.{GraphData, edge_cell_of, ends_of}
use Rattle.vertex_lang.specs.declared.arc.Arc.{Arc}

-- the second graph has the nodes and the columns of the first, and at the numbers of its edges these edges, with their cells
pub record GrowsTo (g h : GraphData) : Type 0 where
  pub ids : h.ids ≡ g.ids
  pub node_columns : h.node_columns ≡ g.node_columns
  pub node_cells : h.node_cells ≡ g.node_cells
  pub edge_columns : h.edge_columns ≡ g.edge_columns
  pub count : length g.ends ≤ length h.ends
  pub ends : (e : ℕ) → e < length g.ends → ends_of h e ≡ ends_of g e
  pub cells : (e column : ℕ) → e < length g.ends → column < length g.edge_columns → edge_cell_of h e column ≡ edge_cell_of g e column

-- these are edges of the graph
abbrev pub AreEdgesOf : GraphData → List EdgeNo → Type 0
AreEdgesOf g edges = All (λ e. e.0 < length g.ends) edges

-- these arcs run along edges of the graph
abbrev pub AlongEdgesOf : GraphData → List Arc → Type 0
AlongEdgesOf g arcs = All (λ a. a.edge.0 < length g.ends) arcs
