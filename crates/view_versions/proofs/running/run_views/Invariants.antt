use Rattle.std.proofs.Common.{◌≡◌, ◌+◌, ◌++◌, map, sum, take}
use Rattle.std.specs.Prelude.{All}
use Rattle.round_kernel.specs.Kernels.{IsKernel}
use Rattle.view_matrix.specs.Matrices.{IsView}
use Rattle.view_order.specs.Greedy.{numbers}
use Rattle.view_segment.specs.Segments.{last_of}
use Rattle.view_segment.specs.Tasks.{works_from}
use Rattle.view_versions.specs.Runs.{HoldsRun, task_in}
use Rattle.view_versions.proofs.running.run_views.Given as goal

abbrev pub invariant-loop-view : goal.invariant-loop-view
invariant-loop-view g l = record {
  views : map (λ run. run.view) l.runs.items ≡ map (λ run. run.view) l.fn.runs.items ++ take l.view-index l.views;
  within : All (λ run. IsView l.setting.matrix.now run.view) l.runs.items;
  holds : All (HoldsRun (task_in g.U.Updater.answer l.setting)) l.runs.items;
  kernel : IsKernel l.setting.graph.now l.kernel;
  rows : l.kernel.rows ≡ l.fn.kernel.rows;
  calls : g.U.Counted.calls l.updater ≡ g.U.Counted.calls l.fn.updater + sum (works_from (task_in g.U.Updater.answer l.setting) (last_of (numbers (map (λ run. run.view) l.fn.runs.items))) (numbers (take l.view-index l.views)));
}
