use Rattle.std.proofs.Common.{◌≡◌, ◌*◌, ◌≤◌, None, flat_map, take, sum_by}
use Rattle.std.specs.List.{last_or}
use Rattle.view_matrix.specs.Matrices.{place_of, IsColumn}
use Rattle.view_order.specs.Greedy.{numbers}
use Rattle.surge_session.specs.Output.{difference, with_distances, order_line}
use Rattle.surge_session.specs.State.{shown_graph}
use Rattle.surge_session.proofs.order.order_lines.Given as goal

abbrev pub invariant-loop-number : goal.invariant-loop-number
invariant-loop-number l = record {
  text : l.text.items ≡ flat_map (order_line l.views) (with_distances (difference (shown_graph l.graph l.matrix) l.views) None (numbers (take l.number-index l.order)));
  total : l.total ≡ sum_by (λ line. line.1) (with_distances (difference (shown_graph l.graph l.matrix) l.views) None (numbers (take l.number-index l.order)));
  few : l.total ≤ l.number-index * 4_000_000;
  before : place_of l.before ≡ last_or None (numbers (take l.number-index l.order));
  column : IsColumn l.matrix l.before;
}
