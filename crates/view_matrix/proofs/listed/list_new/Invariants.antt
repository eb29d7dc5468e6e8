use Rattle.std.proofs.Common.{◌≡◌, ◌*◌, ◌&&◌, map, filter}
use Rattle.std.specs.List.{range_with_len}
use Rattle.edge_predicates.specs.ViewEdges.{edge}
use Rattle.view_matrix.specs.Columns.{at}
use Rattle.view_matrix.proofs.listed.list_new.Given as goal

abbrev pub invariant-loop-k : goal.invariant-loop-k
invariant-loop-k l = l.edges ≡ map (λ e. (edge e, at l.column e)) (filter (λ e. at l.places e && at l.column e) (range_with_len 0 (64 * l.k)))
