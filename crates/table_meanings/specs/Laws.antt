-- What a run of a built-in program prints for a view, each law as one statement, and its proof.
use Rattle.std.specs.Prelude.{◌≡◌, ◌<◌, ◌&&◌, ℕ, ℤ, All, length, Option, None, IsTrue}
use Rattle.std.proofs.Common.{sym, subst, arith}
use Rattle.std.proofs.lemmas.List.Elements.{All-filter}
use Rattle.std.proofs.lemmas.List.FromFn.{length-map-range_with_len, get_or-map-range_with_len}
use Rattle.graph_model.specs.declared.number.EdgeNo.{EdgeNo}
use Rattle.graph_model.specs.GraphData.{GraphData, IsGraphData}
use Rattle.edge_predicates.specs.declared.pred.ViewRule.{ViewRule}
use Rattle.edge_predicates.specs.Truth.{rule_truth}
use Rattle.edge_predicates.specs.ViewEdges.{edge, edges_of}
use Rattle.vertex_lang.specs.declared.lone.Lone.{Lone}
use Rattle.vertex_lang.specs.declared.program.Along.TheVariants as along
use Rattle.vertex_lang.specs.declared.program.Program.{Program}
use Rattle.vertex_lang.specs.Arcs.{arcs_between}
use Rattle.vertex_lang.specs.Expressions.{updated}
use Rattle.vertex_lang.specs.Leaves.{is_int_column}
use Rattle.graph_algos.specs.Hops.{hops}
use Rattle.graph_algos.specs.Dist.{dist}
use Rattle.graph_algos.specs.Wcc.{wcc}
use Rattle.graph_meanings.specs.Meanings.{AreHops, AreDistances, AreComponents, HasWeights}
use Rattle.graph_meanings.specs.Laws.{HasMeaning, run_over}
use Rattle.graph_meanings.specs.ViewMeanings.{hops-over-edges, distances-over-edges, components-over-edges}
use Rattle.gvdl_check.specs.declared.plan.RunPlan.{RunPlan}
use Rattle.gvdl_check.specs.declared.plan.ViewPlan.{ViewPlan}
use Rattle.surge_session.specs.Live.{LiveGraph, is_live, live_edges}
use Rattle.surge_session.specs.Output.{answer_over, view_answer, view_arcs}

-- ---- the edges of a view that are there at some time

each-edge : (graph : GraphData) → All (λ (e : EdgeNo). e.0 < length graph.ends) (edges_of graph)
each-edge graph k d low =
    let within : k < length graph.ends = omega (arith, low, length-map-range_with_len edge 0 (length graph.ends)) in
    subst (λ (e : EdgeNo). e.0 < length graph.ends) (sym (get_or-map-range_with_len edge 0 (length graph.ends) k k d within (omega arith))) within

of-view : (w : LiveGraph) (rule : ViewRule) → All (λ (e : EdgeNo). e.0 < length w.graph.ends) (live_edges w rule)
of-view w rule = All-filter (λ e. is_live w.live e.0 && rule_truth w.graph e.0 rule) (λ (e : EdgeNo). e.0 < length w.graph.ends) (edges_of w.graph) (each-edge w.graph)

-- the answer of a run of this program that isn't in phases
plain-run : (w : LiveGraph) (run : RunPlan) (view : ViewPlan) (p : Program) (M : Lone → Type 0) → run.program ≡ p → run.phases ≡ None → M (run_over p w.graph (live_edges w view.rule) run.rounds) → M (view_answer updated w run view.rule)
plain-run w run view p M same unphased h =
    subst (λ (phases : Option ℕ). M (answer_over updated w.graph run (view_arcs w run view.rule) phases)) (sym unphased)
    (subst (λ (q : Program). M (run_over q w.graph (live_edges w view.rule) run.rounds)) (sym same) h)

-- ---- what is printed

-- of a run of `hops`
abbrev pub HopsOfTables : Type 0
HopsOfTables = (w : LiveGraph) (run : RunPlan) (view : ViewPlan) (source : ℤ) → IsGraphData w.graph → run.program ≡ hops source → run.phases ≡ None
    → HasMeaning w.graph run.rounds (view_answer updated w run view.rule) (AreHops w.graph (arcs_between along.Out w.graph (live_edges w view.rule)) source)

pub hops-of-tables : HopsOfTables
hops-of-tables w run view source is_graph same unphased =
    let edges = live_edges w view.rule in
    plain-run w run view (hops source) (λ told. HasMeaning w.graph run.rounds told (AreHops w.graph (arcs_between along.Out w.graph edges) source)) same unphased
    (hops-over-edges w.graph edges source run.rounds is_graph (of-view w view.rule))

-- of a run of `dist`, where the edges of the view have weights
abbrev pub DistancesOfTables : Type 0
DistancesOfTables = (w : LiveGraph) (run : RunPlan) (view : ViewPlan) (source : ℤ) (column : ℕ) → IsGraphData w.graph → run.program ≡ dist source column → run.phases ≡ None
    → IsTrue (is_int_column w.graph.edge_columns column) → HasWeights w.graph column (arcs_between along.Out w.graph (live_edges w view.rule))
    → HasMeaning w.graph run.rounds (view_answer updated w run view.rule) (AreDistances w.graph (arcs_between along.Out w.graph (live_edges w view.rule)) source column)

pub distances-of-tables : DistancesOfTables
distances-of-tables w run view source column is_graph same unphased is_column has =
    let edges = live_edges w view.rule in
    plain-run w run view (dist source column) (λ told. HasMeaning w.graph run.rounds told (AreDistances w.graph (arcs_between along.Out w.graph edges) source column)) same unphased
    (distances-over-edges w.graph edges source column run.rounds is_graph (of-view w view.rule) is_column has)

-- of a run of `wcc`
abbrev pub ComponentsOfTables : Type 0
ComponentsOfTables = (w : LiveGraph) (run : RunPlan) (view : ViewPlan) → IsGraphData w.graph → run.program ≡ wcc → run.phases ≡ None
    → HasMeaning w.graph run.rounds (view_answer updated w run view.rule) (AreComponents w.graph (arcs_between along.Both w.graph (live_edges w view.rule)))

pub components-of-tables : ComponentsOfTables
components-of-tables w run view is_graph same unphased =
    let edges = live_edges w view.rule in
    plain-run w run view wcc (λ told. HasMeaning w.graph run.rounds told (AreComponents w.graph (arcs_between along.Both w.graph edges))) same unphased
    (components-over-edges w.graph edges run.rounds is_graph (of-view w view.rule))
