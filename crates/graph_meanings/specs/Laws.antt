-- What the built-in programs mean, each law as one statement about the answers of their plain runs.
use Rattle.std.specs.Prelude.{◌≤◌, ◌<◌, ◌^◌, ℕ, ℤ, List, All, length, IsTrue}
use Rattle.graph_model.specs.declared.number.EdgeNo.{EdgeNo}
use Rattle.graph_model.specs.declared.value.Val.{Val}
use Rattle.graph_model.specs.GraphData.{GraphData, IsGraphData}
use Rattle.edge_predicates.specs.declared.pred.ViewRule.{ViewRule}
use Rattle.edge_predicates.specs.ViewEdges.{view_edges}
use Rattle.vertex_lang.specs.declared.arc.Arc.{Arc}
use Rattle.vertex_lang.specs.declared.lone.Lone.{Lone}
use Rattle.vertex_lang.specs.declared.lone.Rounds.{Rounds}
use Rattle.vertex_lang.specs.declared.program.Along.TheVariants as along
use Rattle.vertex_lang.specs.declared.program.Program.{Program}
use Rattle.vertex_lang.specs.Arcs.{IsArc, arcs_between}
use Rattle.vertex_lang.specs.Expressions.{updated}
use Rattle.vertex_lang.specs.Leaves.{is_int_column}
use Rattle.vertex_lang.specs.Lone.{answer_of, number_of}
use Rattle.graph_algos.specs.Hops.{hops}
use Rattle.graph_algos.specs.Dist.{dist}
use Rattle.graph_algos.specs.Wcc.{wcc}
use Rattle.graph_meanings.specs.Meanings.{AreHops, AreDistances, AreComponents, HasWeights, IsSettled, HasRoundsForAll, RunBothWays, InOneComponent}

-- the run of this program over these arcs settles where it may go on for as many rounds as there are nodes
abbrev pub Settles : Program → GraphData → List Arc → Rounds → Type 0
Settles p graph arcs limit = 1 ≤ number_of limit → HasRoundsForAll graph limit → IsSettled (answer_of updated p graph arcs limit).outcome

-- where the run of `hops` is settled, its values are the least numbers of arcs of walks
abbrev pub HopsMean : Type 0
HopsMean = (graph : GraphData) (arcs : List Arc) (source : ℤ) (limit : Rounds) → length graph.ids ≤ 1_000_000 → All (IsArc graph) arcs
    → IsSettled (answer_of updated (hops source) graph arcs limit).outcome → AreHops graph arcs source (answer_of updated (hops source) graph arcs limit).values

abbrev pub HopsSettle : Type 0
HopsSettle = (graph : GraphData) (arcs : List Arc) (source : ℤ) (limit : Rounds) → All (IsArc graph) arcs → Settles (hops source) graph arcs limit

-- where the run of `dist` is settled, its values are the least weights of walks
abbrev pub DistancesMean : Type 0
DistancesMean = (graph : GraphData) (arcs : List Arc) (source : ℤ) (column : ℕ) (limit : Rounds) → All (IsArc graph) arcs → IsTrue (is_int_column graph.edge_columns column) → HasWeights graph column arcs
    → IsSettled (answer_of updated (dist source column) graph arcs limit).outcome → AreDistances graph arcs source column (answer_of updated (dist source column) graph arcs limit).values

abbrev pub DistancesSettle : Type 0
DistancesSettle = (graph : GraphData) (arcs : List Arc) (source : ℤ) (column : ℕ) (limit : Rounds) → All (IsArc graph) arcs → IsTrue (is_int_column graph.edge_columns column) → HasWeights graph column arcs → Settles (dist source column) graph arcs limit

-- where the run of `wcc` is settled, its values are the least ids of components
abbrev pub ComponentsMean : Type 0
ComponentsMean = (graph : GraphData) (arcs : List Arc) (limit : Rounds) → All (λ id. id < 2 ^ 63) graph.ids → All (IsArc graph) arcs
    → IsSettled (answer_of updated wcc graph arcs limit).outcome → AreComponents graph arcs (answer_of updated wcc graph arcs limit).values

abbrev pub ComponentsSettle : Type 0
ComponentsSettle = (graph : GraphData) (arcs : List Arc) (limit : Rounds) → All (λ id. id < 2 ^ 63) graph.ids → All (IsArc graph) arcs → Settles wcc graph arcs limit

-- ---- components

-- where each edge gives an arc in both directions, each node is in one component with itself, what is joined is joined the
-- other way round, and what is joined to one node is joined
pub record AreClasses (arcs : List Arc) : Type 0 where
  pub itself : (u : ℕ) → InOneComponent arcs u u
  pub turned : (u v : ℕ) → InOneComponent arcs u v → InOneComponent arcs v u
  pub joined : (u v w : ℕ) → InOneComponent arcs u v → InOneComponent arcs v w → InOneComponent arcs u w

abbrev pub ComponentsAreClasses : Type 0
ComponentsAreClasses = (graph : GraphData) (arcs : List Arc) → RunBothWays graph arcs → AreClasses arcs

-- ---- the same over edges, and over those of a view

-- the answer of the plain run of a program over these edges, along its direction
abbrev pub run_over : Program → GraphData → List EdgeNo → Rounds → Lone
run_over p graph edges limit = answer_of updated p graph (arcs_between p.along graph edges) limit

-- where the run is settled its values have this meaning, and it settles where it may go on for as many rounds as there are
-- nodes
pub record HasMeaning (graph : GraphData) (limit : Rounds) (told : Lone) (meaning : List Val → Type 0) : Type 0 where
  pub means : IsSettled told.outcome → meaning told.values
  pub settles : 1 ≤ number_of limit → HasRoundsForAll graph limit → IsSettled told.outcome

abbrev pub HopsOverEdges : Type 0
HopsOverEdges = (graph : GraphData) (edges : List EdgeNo) (source : ℤ) (limit : Rounds) → IsGraphData graph → All (λ e. e.0 < length graph.ends) edges
    → HasMeaning graph limit (run_over (hops source) graph edges limit) (AreHops graph (arcs_between along.Out graph edges) source)

abbrev pub DistancesOverEdges : Type 0
DistancesOverEdges = (graph : GraphData) (edges : List EdgeNo) (source : ℤ) (column : ℕ) (limit : Rounds) → IsGraphData graph → All (λ e. e.0 < length graph.ends) edges
    → IsTrue (is_int_column graph.edge_columns column) → HasWeights graph column (arcs_between along.Out graph edges)
    → HasMeaning graph limit (run_over (dist source column) graph edges limit) (AreDistances graph (arcs_between along.Out graph edges) source column)

abbrev pub ComponentsOverEdges : Type 0
ComponentsOverEdges = (graph : GraphData) (edges : List EdgeNo) (limit : Rounds) → IsGraphData graph → All (λ e. e.0 < length graph.ends) edges
    → HasMeaning graph limit (run_over wcc graph edges limit) (AreComponents graph (arcs_between along.Both graph edges))

-- over the edges that satisfy all predicates of a view
abbrev pub HopsOfViews : Type 0
HopsOfViews = (graph : GraphData) (rule : ViewRule) (source : ℤ) (limit : Rounds) → IsGraphData graph
    → HasMeaning graph limit (run_over (hops source) graph (view_edges graph rule) limit) (AreHops graph (arcs_between along.Out graph (view_edges graph rule)) source)

abbrev pub DistancesOfViews : Type 0
DistancesOfViews = (graph : GraphData) (rule : ViewRule) (source : ℤ) (column : ℕ) (limit : Rounds) → IsGraphData graph
    → IsTrue (is_int_column graph.edge_columns column) → HasWeights graph column (arcs_between along.Out graph (view_edges graph rule))
    → HasMeaning graph limit (run_over (dist source column) graph (view_edges graph rule) limit) (AreDistances graph (arcs_between along.Out graph (view_edges graph rule)) source column)

abbrev pub ComponentsOfViews : Type 0
ComponentsOfViews = (graph : GraphData) (rule : ViewRule) (limit : Rounds) → IsGraphData graph
    → HasMeaning graph limit (run_over wcc graph (view_edges graph rule) limit) (AreComponents graph (arcs_between along.Both graph (view_edges graph rule)))
