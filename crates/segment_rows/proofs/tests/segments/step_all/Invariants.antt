use Rattle.std.proofs.Common.{◌-◌, length}
use Rattle.std.specs.Prelude.{All}
use Rattle.round_kernel.specs.Kernels.{IsKernel}
use Rattle.arc_rows.specs.RowLists.{AreOfAll}
use Rattle.view_matrix.specs.Matrices.{IsView}
use Rattle.view_segment.specs.Segments.{SegmentStands}
use Rattle.view_segment.specs.Tasks.{task_over}
use Rattle.segment_rows.proofs.tests.segments.step_all.Given as goal

abbrev pub invariant-loop-alloc : goal.invariant-loop-alloc
invariant-loop-alloc g l = record {
  kernel : IsKernel l.plan.graph.now l.kernel;
  along : AreOfAll l.plan.program.now.along l.plan.graph.now l.kernel.rows;
  views : All (IsView l.matrix) l.segment.views;
  stands : SegmentStands (task_over g.U.Updater.answer l.plan.program.now l.plan.graph.now l.plan.rounds l.matrix) l.segment;
}

abbrev pub decreases-loop-alloc : goal.decreases-loop-alloc
decreases-loop-alloc g l = length l.segment.views - length l.segment.works
