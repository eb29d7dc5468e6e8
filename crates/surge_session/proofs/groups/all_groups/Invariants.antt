use Rattle.std.proofs.Common.{◌≡◌, length, take, All}
use Rattle.view_matrix.specs.Matrices.{place_of, IsColumn}
use Rattle.surge_session.specs.Aggregates.{aggregate_text}
use Rattle.surge_session.specs.Grouping.{AreGroupsOf}
use Rattle.surge_session.specs.State.{shown_graph}
use Rattle.surge_session.proofs.Grouping.{IsThere}
use Rattle.surge_session.proofs.groups.all_groups.Given as goal

abbrev pub invariant-loop-i : goal.invariant-loop-i
invariant-loop-i l = record {
  count : length l.texts.items ≡ length l.views;
  groups : AreGroupsOf l.graph l.grouping.by l.grouping.sum l.matrix (place_of l.before) l.i l.groups;
  before : IsColumn l.matrix l.before;
  there : All (IsThere (aggregate_text (shown_graph l.graph l.matrix) l.grouping.by l.grouping.sum l.collection) l.views l.texts.items) (take l.i l.order);
}
