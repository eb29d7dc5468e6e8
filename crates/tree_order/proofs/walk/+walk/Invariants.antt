use Rattle.std.proofs.Common.{◌≡◌, ◌++◌, length, drop}
use Rattle.view_matrix.specs.Matrices.{place_of}
use Rattle.tree_order.specs.Links.{branches_of}
use Rattle.tree_order.specs.Trees.{walk}
use Rattle.tree_order.proofs.walk.+walk.Given as goal

abbrev pub decreases-walk : goal.decreases-walk
decreases-walk l = length l.links.now

abbrev pub invariant-loop-place : goal.invariant-loop-place
invariant-loop-place l = branches_of l.order ++ walk (place_of l.point) (branches_of (drop l.place l.links)) ≡ branches_of l.initial.order ++ walk (place_of l.point) (branches_of l.links)
