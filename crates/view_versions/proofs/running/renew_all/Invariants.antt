use Rattle.std.proofs.Common.{◌≡◌, ◌+◌, map, length, take}
use Rattle.std.specs.Option.{IfSome}
use Rattle.std.specs.List.{AllWithin}
use Rattle.round_kernel.specs.Kernels.{IsKernel}
use Rattle.view_order.specs.Greedy.{numbers}
use Rattle.view_versions.specs.Flags.{AreKept}
use Rattle.view_versions.specs.Runs.{HoldsRun, task_before, task_in}
use Rattle.view_versions.specs.Touched.{edit_works}
use Rattle.view_versions.proofs.running.renew_all.Given as goal

abbrev pub invariant-loop-place : goal.invariant-loop-place
invariant-loop-place g l = record {
  views : map (λ run. run.view) l.runs.items ≡ map (λ run. run.view) l.fn.runs.items;
  renewed : AllWithin (HoldsRun (task_in g.U.Updater.answer l.setting)) l.runs.items 0 l.place;
  rest : AllWithin (HoldsRun (task_before g.U.Updater.answer l.setting l.changes)) l.runs.items l.place (length l.runs.items);
  kernel : IsKernel l.setting.graph.now l.kernel;
  rows : l.kernel.rows ≡ l.fn.kernel.rows;
  kept : IfSome l.kept (AreKept l.setting.matrix.now);
  calls : g.U.Counted.calls l.updater ≡ g.U.Counted.calls l.fn.updater + edit_works (task_before g.U.Updater.answer l.setting l.changes) (task_in g.U.Updater.answer l.setting) (numbers (take l.place (map (λ run. run.view) l.fn.runs.items)));
}
