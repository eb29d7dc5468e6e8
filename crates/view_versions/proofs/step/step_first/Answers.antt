use Rattle.std.proofs.Common.{◌∙◌, Bool, List, length, ap}
use Rattle.arc_rows.specs.Views.{arcs_in}
use Rattle.round_kernel.specs.declared.plan.Plan.{Plan}
use Rattle.view_versions.proofs.Choosing.{flags-count}
use Rattle.view_versions.proofs.Stepping.{first-chosen, first-of}
use Rattle.view_versions.proofs.step.step_first.Goals as goal

pub first_step-requires-clause-edges : goal.first_step-requires-clause-edges
first_step-requires-clause-edges g c =
    ap (λ (bs : List Bool). length bs) (c.deref.ensures.value ∙ c.in_ok-edges.ensures) ∙ flags-count c.args.setting.matrix.now c.args.view.0 ∙ c.requires.setting.matrix

pub first_step-requires-clause-plan : goal.first_step-requires-clause-plan
first_step-requires-clause-plan g c = record {
  checked = c.requires.setting.checked;
  kernel = c.requires.setting.kernel;
  some = c.requires.setting.some;
  limit = c.requires.setting.limit;
}

pub returns-clause-step : goal.returns-clause-step
returns-clause-step g c =
    let s = c.args.setting in
    let plan : Plan = record { program = s.program; graph = s.graph; rounds = s.rounds } in
    first-chosen g.U.Updater.answer s c.args.kernel.now c.requires.setting c.args.view.0 c.deref.result.now c.first_step.result (c.deref.ensures.value ∙ c.in_ok-edges.ensures)
    (first-of g.U.Updater.answer plan (arcs_in c.args.kernel.now.rows.by_head c.deref.result.now) c.first_step.result c.first_step.ensures.step)
