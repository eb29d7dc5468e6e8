use Rattle.std.proofs.Common.{◌≡◌, ◌≤◌, length, take}
use Rattle.arc_rows.specs.Views.{arcs_in}
use Rattle.arc_rows.proofs.degrees.count_in_view.Given as goal

abbrev pub invariant-loop-arc : goal.invariant-loop-arc
invariant-loop-arc l = record {
  counted : l.count ≡ length (arcs_in (take l.arc-index l.row) l.edges);
  few : l.count ≤ l.arc-index;
}
