use Rattle.std.proofs.Common.{◌≡◌, false, take}
use Rattle.view_order.specs.Greedy.{numbers}
use Rattle.view_versions.specs.Slow.{new_task, old_task}
use Rattle.view_versions.specs.Touched.{is_touched_in}
use Rattle.view_versions.proofs.slow.is_touched.Given as goal

abbrev pub invariant-loop-view : goal.invariant-loop-view
invariant-loop-view g l = is_touched_in (old_task g.U.Updater.answer l.versions) (new_task g.U.Updater.answer l.versions) (numbers (take l.view-index l.views)) l.node ≡ false
