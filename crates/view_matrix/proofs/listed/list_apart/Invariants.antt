use Rattle.std.proofs.Common.{◌≡◌, ◌*◌, ◌&&◌, map, filter}
use Rattle.std.specs.List.{range_with_len}
use Rattle.edge_predicates.specs.ViewEdges.{edge}
use Rattle.view_matrix.specs.Columns.{at}
use Rattle.view_matrix.specs.Matrices.{differ}
use Rattle.view_matrix.proofs.listed.list_apart.Given as goal

abbrev pub invariant-loop-k : goal.invariant-loop-k
invariant-loop-k l = l.edges ≡ map (λ e. (edge e, at l.second e)) (filter (λ e. at l.places e && differ (at l.first e) (at l.second e)) (range_with_len 0 (64 * l.k)))
