-- What `hops`, `dist` and `wcc` mean over edges, and over those of a view.
use Rattle.std.specs.Prelude.{◌<◌, List, All, length}
use Rattle.std.proofs.Common.{sym, subst, arith}
use Rattle.std.proofs.lemmas.List.Elements.{All-filter}
use Rattle.std.proofs.lemmas.List.FromFn.{length-map-range_with_len, get_or-map-range_with_len}
use Rattle.graph_model.specs.declared.number.EdgeNo.{EdgeNo}
use Rattle.graph_model.specs.GraphData.{GraphData, IsGraphData}
use Rattle.edge_predicates.specs.declared.pred.ViewRule.{ViewRule}
use Rattle.edge_predicates.specs.Truth.{rule_truth}
use Rattle.edge_predicates.specs.ViewEdges.{edge, edges_of, view_edges}
use Rattle.vertex_lang.specs.declared.program.Along.{Along}
use Rattle.vertex_lang.specs.declared.program.Along.TheVariants as along
use Rattle.vertex_lang.specs.ArcLaws.{arcs-within}
use Rattle.vertex_lang.specs.Arcs.{IsArc, arcs_between}
use Rattle.graph_meanings.specs.DistMeaning.{distances-mean, distances-settle}
use Rattle.graph_meanings.specs.HopsMeaning.{hops-mean, hops-settle}
use Rattle.graph_meanings.specs.Laws.{HopsOverEdges, DistancesOverEdges, ComponentsOverEdges, HopsOfViews, DistancesOfViews, ComponentsOfViews}
use Rattle.graph_meanings.specs.WccMeaning.{components-mean, components-settle}

are-arcs : (way : Along) (graph : GraphData) (edges : List EdgeNo) → IsGraphData graph → All (λ e. e.0 < length graph.ends) edges → All (IsArc graph) (arcs_between way graph edges)
are-arcs way graph edges is_graph low = arcs-within way graph edges is_graph.ends low

pub hops-over-edges : HopsOverEdges
hops-over-edges graph edges s limit is_graph low =
    let arcs = arcs_between along.Out graph edges in
    let are_arcs = are-arcs along.Out graph edges is_graph low in
    record { means = hops-mean graph arcs s limit is_graph.few_nodes are_arcs; settles = hops-settle graph arcs s limit are_arcs }

pub distances-over-edges : DistancesOverEdges
distances-over-edges graph edges s column limit is_graph low is_column has =
    let arcs = arcs_between along.Out graph edges in
    let are_arcs = are-arcs along.Out graph edges is_graph low in
    record { means = distances-mean graph arcs s column limit are_arcs is_column has; settles = distances-settle graph arcs s column limit are_arcs is_column has }

pub components-over-edges : ComponentsOverEdges
components-over-edges graph edges limit is_graph low =
    let arcs = arcs_between along.Both graph edges in
    let are_arcs = are-arcs along.Both graph edges is_graph low in
    record { means = components-mean graph arcs limit is_graph.small_ids are_arcs; settles = components-settle graph arcs limit is_graph.small_ids are_arcs }

-- ---- views

each-edge : (graph : GraphData) → All (λ (e : EdgeNo). e.0 < length graph.ends) (edges_of graph)
each-edge graph k d low =
    let within : k < length graph.ends = omega (arith, low, length-map-range_with_len edge 0 (length graph.ends)) in
    subst (λ (e : EdgeNo). e.0 < length graph.ends) (sym (get_or-map-range_with_len edge 0 (length graph.ends) k k d within (omega arith))) within

of-view : (graph : GraphData) (rule : ViewRule) → All (λ (e : EdgeNo). e.0 < length graph.ends) (view_edges graph rule)
of-view graph rule = All-filter (λ e. rule_truth graph e.0 rule) (λ (e : EdgeNo). e.0 < length graph.ends) (edges_of graph) (each-edge graph)

pub hops-of-views : HopsOfViews
hops-of-views graph rule s limit is_graph = hops-over-edges graph (view_edges graph rule) s limit is_graph (of-view graph rule)

pub distances-of-views : DistancesOfViews
distances-of-views graph rule s column limit is_graph is_column has = distances-over-edges graph (view_edges graph rule) s column limit is_graph (of-view graph rule) is_column has

pub components-of-views : ComponentsOfViews
components-of-views graph rule limit is_graph = components-over-edges graph (view_edges graph rule) limit is_graph (of-view graph rule)
