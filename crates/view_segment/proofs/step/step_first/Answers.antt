use Rattle.std.proofs.Common.{◌∙◌, Bool, List, Option, Some, length, sym, ap, subst}
use Rattle.change_lists.specs.declared.history.History.{History}
use Rattle.round_kernel.specs.declared.ended.Ended.{Ended}
use Rattle.view_segment.specs.Segments.{HistoryOf}
use Rattle.view_segment.specs.Steps.{task_in}
use Rattle.view_segment.proofs.Choosing.{flags-count}
use Rattle.view_segment.proofs.Stepping.{first-given, history-behind}
use Rattle.view_segment.proofs.step.step_first.Goals as goal

pub first_step-requires-clause-edges : goal.first_step-requires-clause-edges
first_step-requires-clause-edges g c =
    ap (λ (bs : List Bool). length bs) (c.deref.ensures.value ∙ c.in_ok-edges.ensures) ∙ flags-count c.args.setting.matrix.now c.args.view.0 ∙ c.requires.setting.matrix

pub only_step-requires-clause-edges : goal.only_step-requires-clause-edges
only_step-requires-clause-edges g c =
    ap (λ (bs : List Bool). length bs) (c.deref-2.ensures.value ∙ c.in_ok-edges.ensures) ∙ flags-count c.args.setting.matrix.now c.args.view.0 ∙ c.requires.setting.matrix

pub returns-then-setting-clause-step : goal.returns-then-setting-clause-step
returns-then-setting-clause-step g c =
    let step = c.in_ok-stepped.ensures.step in
    let made = c.kept.ensures in
    first-given g.U.Updater.answer c.args.setting c.args.kernel.now c.requires.setting c.args.view.0 c.deref.result.now (c.deref.ensures.value ∙ c.in_ok-edges.ensures) c.kept.result.ended
    (made.outcome ∙ step.outcome) (made.change ∙ step.change) (made.work ∙ step.work_is)

pub returns-then-setting-clause-kept : goal.returns-then-setting-clause-kept
returns-then-setting-clause-kept g c = λ yes.
    subst (λ (o : Option History). HistoryOf (task_in g.U.Updater.answer c.args.setting) (Some c.args.view.0) o) (sym c.kept.ensures.history)
    (history-behind g.U.Updater.answer c.args.setting c.args.kernel.now c.requires.setting c.args.view.0 c.deref.result.now c.in_ok-stepped.stepped.history (c.deref.ensures.value ∙ c.in_ok-edges.ensures) c.in_ok-stepped.ensures.step.history)

pub returns-clause-step : goal.returns-clause-step
returns-clause-step g c =
    let step = c.in_ok-ended.ensures.step in
    let made = c.passed.ensures in
    first-given g.U.Updater.answer c.args.setting c.args.kernel.now c.requires.setting c.args.view.0 c.deref-2.result.now (c.deref-2.ensures.value ∙ c.in_ok-edges.ensures) c.passed.result.ended
    (ap (λ (e : Ended). e.outcome) made.ended ∙ step.outcome) (ap (λ (e : Ended). e.change) made.ended ∙ step.change) (ap (λ (e : Ended). e.work) made.ended ∙ step.work_is)
