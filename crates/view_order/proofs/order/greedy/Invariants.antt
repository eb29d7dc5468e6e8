use Rattle.std.proofs.Common.{◌≡◌, ◌++◌, length}
use Rattle.std.specs.Prelude.{All, IsPermutation}
use Rattle.view_matrix.specs.Matrices.{distance_of, place_of, IsColumn, IsView}
use Rattle.view_order.specs.Greedy.{greedy, numbers, tour}
use Rattle.view_order.proofs.Tours.{AreApart}
use Rattle.view_order.proofs.order.greedy.Given as goal

abbrev pub invariant-loop-last : goal.invariant-loop-last
invariant-loop-last l = record {
  order : numbers l.order ++ greedy (distance_of l.matrix) (place_of l.last) (numbers l.rest.items) ≡ greedy (distance_of l.matrix) (place_of l.fn.before) (numbers l.views);
  each : IsPermutation l.views (l.order ++ l.rest.items);
  column : IsColumn l.matrix l.last;
  views : All (IsView l.matrix) l.rest.items;
  distinct : AreApart (numbers l.rest.items);
}

abbrev pub decreases-loop-last : goal.decreases-loop-last
decreases-loop-last l = length l.rest.items
