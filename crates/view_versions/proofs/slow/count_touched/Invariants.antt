use Rattle.std.proofs.Common.{◌≡◌, ◌≤◌}
use Rattle.std.specs.List.{count_by, range_with_len}
use Rattle.view_order.specs.Greedy.{numbers}
use Rattle.view_versions.specs.Slow.{new_task, old_task}
use Rattle.view_versions.specs.Touched.{is_touched_in}
use Rattle.view_versions.proofs.slow.count_touched.Given as goal

abbrev pub invariant-loop-node : goal.invariant-loop-node
invariant-loop-node g l = record {
  counted : l.count ≡ count_by (is_touched_in (old_task g.U.Updater.answer l.versions) (new_task g.U.Updater.answer l.versions) (numbers l.views)) (range_with_len 0 l.node);
  few : l.count ≤ l.node;
}
