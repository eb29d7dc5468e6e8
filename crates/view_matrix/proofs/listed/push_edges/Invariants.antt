use Rattle.std.proofs.Common.{◌≡◌, ◌+◌, ◌++◌, length, map}
use Rattle.edge_predicates.specs.ViewEdges.{edge}
use Rattle.view_matrix.specs.Columns.{set_in}
use Rattle.view_matrix.proofs.listed.push_edges.Given as goal

abbrev pub invariant-loop-place : goal.invariant-loop-place
invariant-loop-place l = l.edges ++ map (λ i. edge (l.first + i)) l.bits ≡ l.initial.edges ++ map (λ i. edge (l.first + i)) (set_in l.word)

abbrev pub decreases-loop-place : goal.decreases-loop-place
decreases-loop-place l = length l.bits
