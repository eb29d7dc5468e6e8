-- The edges of a view.
use Rattle.std.proofs.Common.{◌<◌, ℕ, length, map, sym, subst, arith}
use Rattle.std.specs.Prelude.{All}
use Rattle.std.specs.List.{range_with_len}
use Rattle.std.proofs.lemmas.List.Elements.{All-filter}
use Rattle.std.proofs.lemmas.List.FromFn.{get_or-map-range_with_len, length-map-range_with_len}
use Rattle.edge_predicates.specs.ViewEdges.{edge}
use Rattle.graph_model.specs.declared.number.EdgeNo.{EdgeNo}
use Rattle.view_matrix.specs.Matrices.{MatrixData, all_edges, bit_of, edges_in}

all-within : (n : ℕ) → All (λ (e : EdgeNo). e.0 < n) (map edge (range_with_len 0 n))
all-within n k d low =
    let below : k < n = omega (arith, low, length-map-range_with_len edge 0 n) in
    subst (λ (e : EdgeNo). e.0 < n) (sym (get_or-map-range_with_len edge 0 n k k d below (omega arith))) below

-- the edges of a view are edges of the graph
pub edges-within : (m : MatrixData) (v : ℕ) → All (λ (e : EdgeNo). e.0 < length m.live) (edges_in m v)
edges-within m v = All-filter (λ (e : EdgeNo). bit_of m e.0 v) (λ (e : EdgeNo). e.0 < length m.live) (all_edges m) (all-within (length m.live))
