use Rattle.std.proofs.Common.{◌≡◌, ◌+◌, ◌*◌, ◌≤◌, map, take, drop}
use Rattle.view_matrix.specs.Matrices.{distance_of, place_of, IsColumn}
use Rattle.view_order.specs.Greedy.{numbers}
use Rattle.tree_order.specs.Links.{branches_of, numbers_of}
use Rattle.tree_order.specs.Trees.{parents_of, walked}
use Rattle.tree_order.proofs.order.measured.Given as goal

abbrev pub invariant-loop-link : goal.invariant-loop-link
invariant-loop-link l = record {
  order : numbers l.order ≡ numbers_of (take l.link-index l.links);
  parents : map place_of l.parents ≡ parents_of (branches_of (take l.link-index l.links));
  length : l.length + walked (distance_of l.matrix) (place_of l.last) (numbers_of (drop l.link-index l.links)) ≡ walked (distance_of l.matrix) (place_of l.initial.last) (numbers_of l.links);
  small : l.length ≤ 4_000_000 * l.link-index;
  column : IsColumn l.matrix l.last;
}
