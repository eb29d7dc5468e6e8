use Rattle.std.proofs.Common.{◌≡◌, ◌∙◌, ◌-◌, ℕ, suc, Option, Some, length, ap, sym, subst}
use Rattle.std.specs.Prelude.{IfOk}
use Rattle.view_segment.specs.Tasks.{arcs_before, view_arcs}
use Rattle.view_versions.specs.declared.run.ViewRun.{ViewRun}
use Rattle.view_versions.specs.Runs.{StepIn, task_in}
use Rattle.view_versions.proofs.Finding.{filled, last-run}
use Rattle.view_versions.proofs.running.step_next.Goals as goal

pub returns-clause-step : goal.returns-clause-step
returns-clause-step g c =
    let s = c.args.setting in
    let task = task_in g.U.Updater.answer s in
    let runs = c.args.runs.now in
    let last = c.index-runs-runs.result in
    let some : length runs ≡ suc (length runs - 1) = filled (length runs) (sym c.is_empty.ensures ∙ c.if-is_empty.false) in
    let is = last-run runs (length runs - 1) last some ∙ ap (λ (run : ViewRun). Some run.view.0) (sym c.index-runs-runs.is) in
    subst (λ (o : Option ℕ). IfOk c.step_behind.result (StepIn g.U.Updater.answer s (arcs_before task o) (view_arcs task c.args.view.0))) (sym is) c.step_behind.ensures.step
