use Rattle.std.proofs.Common.{◌≡◌, [], map, take}
use Rattle.view_matrix.specs.Matrices.{distance_of}
use Rattle.tree_order.specs.Links.{reached}
use Rattle.tree_order.proofs.grow.outside.Given as goal

abbrev pub invariant-loop-view : goal.invariant-loop-view
invariant-loop-view l = l.links.items ≡ map (λ v. reached (distance_of l.matrix) [] v.0) (take l.view-index l.views)
