-- What follows from the definitions, each law as one statement, and proofs of them that the rooms above can cite.
use Rattle.std.specs.Prelude.{◌≡◌, ℕ, true, List, length, All, slice_get, Option, Some}
use Rattle.graph_model.specs.GraphData.{GraphData}
use Rattle.edge_predicates.specs.declared.pred.ViewRule.{ViewRule}
use Rattle.edge_predicates.specs.ViewEdges.{view_edges}
use Rattle.view_matrix.specs.Matrices.{MatrixData, edges_in, column_edges, distance_of, in_exactly_one, rule_columns}
use Rattle.view_matrix.specs.ViewLaws.{same_edges}
use Rattle.view_matrix.specs.ApartLaws.{apart_lists}

-- the matrix shows these views of a graph, all of whose edges are live
pub record ShowsViews (g : GraphData) (rules : List ViewRule) (m : MatrixData) : Type 0 where
  pub count : length m.live ≡ length g.ends
  pub live : All (λ b. b ≡ true) m.live
  pub columns : m.columns ≡ rule_columns g rules

-- the edges that stand in a view of it are those of the view in the graph
abbrev pub EdgesOfViews : Type 0
EdgesOfViews = (g : GraphData) (rules : List ViewRule) (m : MatrixData) (v : ℕ) (rule : ViewRule) → ShowsViews g rules m → slice_get rules v ≡ Some rule → edges_in m v ≡ view_edges g rule

pub edges_in-views : EdgesOfViews
edges_in-views g rules m v rule shows at = same_edges g rules m v rule shows.count shows.live shows.columns at

-- the distance of two views is the number of edges that stand in exactly one of their lists
abbrev pub DistanceOverLists : Type 0
DistanceOverLists = (m : MatrixData) (before : Option ℕ) (v : ℕ) → distance_of m before v ≡ in_exactly_one (column_edges m before) (edges_in m v)

pub distance_of-lists : DistanceOverLists
distance_of-lists m before v = apart_lists m before v
