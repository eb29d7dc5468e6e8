use Rattle.std.proofs.Common.{◌≡◌, length}
use Rattle.std.specs.Prelude.{Some}
use Rattle.vertex_lang.specs.Lone.{number_of}
use Rattle.arc_rows.specs.Views.{arcs_in}
use Rattle.round_kernel.specs.Histories.{IsHistory}
use Rattle.round_kernel.specs.Kernels.{IsKernel}
use Rattle.vertex_rows.proofs.tests.kernel.later_views.Given as goal

abbrev pub invariant-loop-bits : goal.invariant-loop-bits
invariant-loop-bits g l = record {
  kernel : IsKernel l.plan.graph.now l.kernel;
  rows : l.kernel.rows ≡ l.initial.kernel.rows;
  flags : length l.old.flags.items ≡ length l.plan.graph.now.ends;
  history : IsHistory g.U.Updater.answer l.plan.program.now l.plan.graph.now
      (Some (arcs_in l.initial.kernel.rows.by_head l.old.flags.items)) (number_of l.plan.rounds) l.old.history;
}
