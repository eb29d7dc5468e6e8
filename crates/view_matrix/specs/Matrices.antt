-- What contracts see of a matrix of edges by views: which edges are live, and for each view of which edges its rule holds.
use Rattle.std.specs.Prelude.{ℕ, ◌<◌, ◌+◌, ◌==◌, ⊤, Bool, true, false, not, ◌&&◌, List, [], ◌++◌, length, map, filter, fold, get_or, slice_set, Option, Some, None}
use Rattle.std.specs.List.{range_with_len, list_any}
use Rattle.graph_model.specs.declared.number.EdgeNo.{EdgeNo}
use Rattle.graph_model.specs.declared.number.ViewNo.{ViewNo}
use Rattle.graph_model.specs.GraphData.{GraphData}
use Rattle.edge_predicates.specs.declared.pred.ViewRule.{ViewRule}
use Rattle.edge_predicates.specs.Truth.{rule_truth}
use Rattle.edge_predicates.specs.ViewEdges.{edge}

-- whether each edge is live, in the order of the file; and a column for each view, in declared order: whether the view's
-- rule holds of each edge
pub record MatrixData : Type 0 where
  pub live : List Bool
  pub columns : List (List Bool)

-- the view is one of the matrix
abbrev pub IsView : MatrixData → ViewNo → Type 0
IsView m view = view.0 < length m.columns

-- ---- bits

abbrev pub live_of : MatrixData → ℕ → Bool
live_of m e = get_or m.live e false

-- the column of the view with this number
abbrev pub column_of : MatrixData → ℕ → List Bool
column_of m v = get_or m.columns v []

-- whether the rule of the view holds of the edge, each by its number
abbrev pub rule_bit_of : MatrixData → ℕ → ℕ → Bool
rule_bit_of m e v = get_or (column_of m v) e false

-- whether the edge stands in the view: it is live, and the view's rule holds of it
abbrev pub bit_of : MatrixData → ℕ → ℕ → Bool
bit_of m e v = live_of m e && rule_bit_of m e v

-- ---- the edges of a view

-- all edges, in the order of the file
abbrev pub all_edges : MatrixData → List EdgeNo
all_edges m = map edge (range_with_len 0 (length m.live))

-- the edges that stand in the view
abbrev pub edges_in : MatrixData → ℕ → List EdgeNo
edges_in m v = filter (λ e. bit_of m e.0 v) (all_edges m)

-- how many there are
abbrev pub size_of : MatrixData → ℕ → ℕ
size_of m v = length (edges_in m v)

-- ---- two views

-- the view before, if there is one: without one stands the empty column, in which no edge stands
abbrev pub IsColumn : MatrixData → Option ViewNo → Type 0
IsColumn m None = ⊤
IsColumn m (Some view) = IsView m view

abbrev pub place_of : Option ViewNo → Option ℕ
place_of None = None
place_of (Some view) = Some view.0

-- whether the edge stands in the view before
abbrev pub column_bit : MatrixData → Option ℕ → ℕ → Bool
column_bit m None e = false
column_bit m (Some v) e = bit_of m e v

abbrev pub column_edges : MatrixData → Option ℕ → List EdgeNo
column_edges m before = filter (λ e. column_bit m before e.0) (all_edges m)

abbrev pub differ : Bool → Bool → Bool
differ true b = not b
differ false b = b

-- the edges in which the two columns differ
abbrev pub apart : MatrixData → Option ℕ → ℕ → List EdgeNo
apart m before v = filter (λ e. differ (column_bit m before e.0) (bit_of m e.0 v)) (all_edges m)

-- how many there are
abbrev pub distance_of : MatrixData → Option ℕ → ℕ → ℕ
distance_of m before v = length (apart m before v)

-- each of them with what it is in the view: true where it stands there and not in the view before, and else false
abbrev pub differences_of : MatrixData → Option ℕ → ℕ → List (EdgeNo × Bool)
differences_of m before v = map (λ e. (e, bit_of m e.0 v)) (apart m before v)

-- ---- lists of edges

abbrev pub is_in : List EdgeNo → EdgeNo → Bool
is_in edges e = list_any (λ other. other.0 == e.0) edges

-- how many edges stand in exactly one of two lists, in each of which no edge stands twice
abbrev pub in_exactly_one : List EdgeNo → List EdgeNo → ℕ
in_exactly_one xs ys = length (filter (λ e. not (is_in ys e)) xs) + length (filter (λ e. not (is_in xs e)) ys)

-- ---- how a matrix is made and changed

-- the column of a rule over a graph
abbrev pub rule_column : GraphData → ViewRule → List Bool
rule_column g rule = map (λ e. rule_truth g e rule) (range_with_len 0 (length g.ends))

abbrev pub rule_columns : GraphData → List ViewRule → List (List Bool)
rule_columns g rules = map (rule_column g) rules

-- the matrix of these views over a graph
abbrev pub matrix_of : GraphData → List Bool → List ViewRule → MatrixData
matrix_of g live rules = record { live = live; columns = rule_columns g rules }

-- the matrix with these views behind its own
abbrev pub with_views : MatrixData → GraphData → List ViewRule → MatrixData
with_views m g rules = record { live = m.live; columns = m.columns ++ rule_columns g rules }

-- whether each edge is live after an edge is made so, or not so
abbrev pub with_live : List Bool → EdgeNo × Bool → List Bool
with_live live change = slice_set live change.0.0 change.1

-- the matrix after these changes, one after the other
abbrev pub with_changes : MatrixData → List (EdgeNo × Bool) → MatrixData
with_changes m changes = record { live = fold with_live m.live changes; columns = m.columns }
