use Rattle.std.proofs.Common.{◌≡◌, ◌<◌, ◌≤◌, ◌-◌, length, take, drop, get_or}
use Rattle.view_matrix.specs.Matrices.{distance_of, place_of}
use Rattle.view_order.specs.Greedy.{nearest, numbers}
use Rattle.view_order.proofs.nearest.nearest.Given as goal

abbrev pub invariant-loop-place : goal.invariant-loop-place
invariant-loop-place l = record {
  from : 1 ≤ l.place;
  within : l.at < length l.views;
  view : l.best.view ≡ get_or l.views l.at l.best.view;
  distance : l.best.distance ≡ distance_of l.matrix (place_of l.before) l.best.view.0;
  nearest : l.best.view.0 ≡ nearest (distance_of l.matrix (place_of l.before)) (get_or (numbers l.views) 0 0) (take (l.place - 1) (drop 1 (numbers l.views)));
}
