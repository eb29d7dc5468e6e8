-- The edges and arcs of views.
use Rattle.std.proofs.Common.{◌≡◌, ◌<◌, ℕ, length, map, All, Some, sym, ap, subst, arith}
use Rattle.std.specs.List.{range_with_len}
use Rattle.std.proofs.lemmas.List.Elements.{All-filter}
use Rattle.std.proofs.lemmas.List.FromFn.{get_or-map-range_with_len, length-map-range_with_len}
use Rattle.edge_predicates.specs.ViewEdges.{edge}
use Rattle.graph_model.specs.declared.number.EdgeNo.{EdgeNo}
use Rattle.graph_model.specs.declared.number.ViewNo.{ViewNo}
use Rattle.graph_model.specs.GraphData.{GraphData}
use Rattle.vertex_lang.specs.declared.program.Program.{Program}
use Rattle.vertex_lang.specs.Arcs.{arcs_between}
use Rattle.view_matrix.specs.Matrices.{MatrixData, all_edges, bit_of, distance_of, edges_in}
use Rattle.phase_runs.specs.Answers.{view_arcs}
use Rattle.phase_runs.specs.Laws.{equal_views}

all-within : (n : ℕ) → All (λ (e : EdgeNo). e.0 < n) (map edge (range_with_len 0 n))
all-within n k d low =
    let below : k < n = omega (arith, low, length-map-range_with_len edge 0 n) in
    subst (λ (e : EdgeNo). e.0 < n) (sym (get_or-map-range_with_len edge 0 n k k d below (omega arith))) below

-- the edges of a view are edges of the graph
pub edges-within : (m : MatrixData) (v : ℕ) → All (λ (e : EdgeNo). e.0 < length m.live) (edges_in m v)
edges-within m v = All-filter (λ (e : EdgeNo). bit_of m e.0 v) (λ (e : EdgeNo). e.0 < length m.live) (all_edges m) (all-within (length m.live))

-- views that differ in no edge have the same arcs
pub same-arcs : (p : Program) (graph : GraphData) (m : MatrixData) (u v : ViewNo) → distance_of m (Some u.0) v.0 ≡ 0 → view_arcs p graph m u ≡ view_arcs p graph m v
same-arcs p graph m u v none = ap (arcs_between p.along graph) ((equal_views m u.0 v.0).near none)
