-- A round of a view, as the code keeps it: which edges are in the view, how many arcs leave each node, and the values.
use Rattle.std.specs.Prelude.{◌≢◌, ◌<◌, ◌==◌, ◌||◌, ℕ, Bool, false, List, length, filter, get_or, Option, Some, None, ◌-◌, Contains}
use Rattle.vertex_lang.specs.declared.arc.Arc.{Arc}
use Rattle.graph_model.specs.declared.number.EdgeNo.{EdgeNo}
use Rattle.arc_rows.specs.RowLists.{edge}

-- the edge of an arc is in the view
abbrev pub in_view : List Bool → Arc → Bool
in_view edges a = get_or edges a.edge.0 false

-- the arcs of a view
abbrev pub arcs_in : List Arc → List Bool → List Arc
arcs_in all edges = filter (in_view edges) all

-- the edge of an arc is in one of two views or in both
abbrev pub in_either : List Bool → List Bool → Arc → Bool
in_either old new a = in_view old a || in_view new a

-- of a view that may be none
abbrev pub view_in : List Arc → Option (List Bool) → Option (List Arc)
view_in all None = None
view_in all (Some edges) = Some (arcs_in all edges)

-- the arc is in one of the two views alone
abbrev pub IsTurned : List Bool → List Bool → Arc → Type 0
IsTurned old new a = in_view old a ≢ in_view new a

-- the arcs that come to a node
abbrev pub row_of : List Arc → ℕ → List Arc
row_of all v = filter (λ a. a.head.0 == v) all

-- each edge that is in one of the two views alone is told
abbrev pub TellsAll : List Bool → List Bool → List EdgeNo → Type 0
TellsAll old new turned = (e : ℕ) → e < length old → get_or old e false ≢ get_or new e false → Contains turned (edge e)
