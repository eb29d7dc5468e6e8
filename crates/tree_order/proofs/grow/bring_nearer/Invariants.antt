use Rattle.std.proofs.Common.{◌≡◌, ◌++◌, map, take, drop, All}
use Rattle.view_matrix.specs.Matrices.{distance_of, IsView}
use Rattle.tree_order.specs.Links.{brought}
use Rattle.tree_order.proofs.grow.bring_nearer.Given as goal

abbrev pub invariant-loop-link : goal.invariant-loop-link
invariant-loop-link l = record {
  brought : l.links ≡ map (brought (distance_of l.matrix) l.joined) (take l.link-index l.initial.links) ++ drop l.link-index l.initial.links;
  views : All (λ link. IsView l.matrix link.view) l.links;
}
