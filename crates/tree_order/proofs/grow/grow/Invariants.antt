use Rattle.std.proofs.Common.{◌≡◌, ◌+◌, ◌*◌, ◌≤◌, length, All}
use Rattle.view_matrix.specs.Matrices.{distance_of, IsView}
use Rattle.view_order.specs.Greedy.{numbers}
use Rattle.tree_order.specs.Links.{branches_of}
use Rattle.tree_order.specs.Trees.{tree, weight}
use Rattle.tree_order.proofs.Links.{AreLinks}
use Rattle.tree_order.proofs.grow.grow.Given as goal

abbrev pub invariant-loop-outside : goal.invariant-loop-outside
invariant-loop-outside l = record {
  links : AreLinks (distance_of l.matrix) l.links l.outside.items (tree (distance_of l.matrix) (numbers l.views));
  weight : l.weight ≡ weight (distance_of l.matrix) (branches_of l.links);
  views : All (λ link. IsView l.matrix link.view) l.outside.items;
  few : length l.links + length l.outside.items ≤ 1_024;
  small : l.weight ≤ 4_294_967_295 * length l.links;
}

abbrev pub decreases-loop-outside : goal.decreases-loop-outside
decreases-loop-outside l = length l.outside.items
