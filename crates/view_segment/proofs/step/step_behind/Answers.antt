use Rattle.std.proofs.Common.{Vec, Global, ◌∙◌, ◌<◌, ℕ, Bool, List, Option, Some, length, sym, ap, subst}
use Rattle.std.specs.Prelude.{All}
use Rattle.graph_model.specs.declared.number.EdgeNo.{EdgeNo}
use Rattle.arc_rows.specs.RowLaws.{all-along}
use Rattle.arc_rows.specs.Views.{TellsAll}
use Rattle.change_lists.specs.declared.history.History.{History}
use Rattle.round_kernel.specs.declared.ended.Ended.{Ended}
use Rattle.view_matrix.specs.Matrices.{apart}
use Rattle.view_segment.specs.Segments.{HistoryOf}
use Rattle.view_segment.proofs.Choosing.{flags-count, apart-tells, apart-within}
use Rattle.view_segment.proofs.Stepping.{later-given, history-before, history-behind}
use Rattle.view_segment.proofs.Turning.{turned-by}
use Rattle.view_segment.specs.Steps.{flags_of, task_in}
use Rattle.view_segment.proofs.step.step_behind.Goals as goal

pub turned_flags-requires : goal.turned_flags-requires
turned_flags-requires g c =
    let m = c.args.setting.matrix.now in
    let u = c.args.before.view.0 in
    let v = c.args.view.0 in
    subst (λ (bs : List Bool). All (λ e. e.0 < length bs) c.as_slice.result.now) (sym c.requires.old)
    (subst (λ (es : List EdgeNo). All (λ e. e.0 < length (flags_of m u)) es) (sym (c.as_slice.ensures ∙ c.in_ok-turned.ensures))
    (subst (λ (n : ℕ). All (λ e. e.0 < n) (apart m (Some u) v)) (sym (flags-count m u)) (apart-within m u v)))

pub next_step-requires-clause-along : goal.next_step-requires-clause-along
next_step-requires-clause-along g c = all-along c.args.setting.plan.program.now.along c.args.setting.plan.graph.now c.args.kernel.now.rows c.requires.setting.along

pub next_step-requires-clause-behind : goal.next_step-requires-clause-behind
next_step-requires-clause-behind g c =
    let m = c.args.setting.matrix.now in
    let u = c.args.before.view.0 in
    let v = c.args.view.0 in
    let old = c.requires.old in
    let new = c.deref.ensures.value ∙ turned-by m u v c.args.old.now c.in_ok-new.new.items c.as_slice.result.now old (c.as_slice.ensures ∙ c.in_ok-turned.ensures) c.in_ok-new.ensures in
    let turned = c.as_slice-2.ensures ∙ c.in_ok-turned.ensures in
    record {
      old = ap (λ (bs : List Bool). length bs) old ∙ flags-count m u ∙ c.requires.setting.matrix;
      new = ap (λ (bs : List Bool). length bs) new ∙ flags-count m v ∙ c.requires.setting.matrix;
      turned = subst (λ (es : List EdgeNo). All (λ e. e.0 < length c.args.setting.plan.graph.now.ends) es) (sym turned)
          (subst (λ (n : ℕ). All (λ e. e.0 < n) (apart m (Some u) v)) c.requires.setting.matrix (apart-within m u v));
      all_turned = subst (λ (bs : List Bool). TellsAll bs c.deref.result.now c.as_slice-2.result.now) (sym old)
          (subst (λ (bs : List Bool). TellsAll (flags_of m u) bs c.as_slice-2.result.now) (sym new)
          (subst (λ (es : List EdgeNo). TellsAll (flags_of m u) (flags_of m v) es) (sym turned) (apart-tells m u v)));
      history = history-before g.U.Updater.answer c.args.setting c.args.kernel.now c.requires.setting u c.args.old.now c.args.before.history.now old c.requires.history;
    }

pub last_step-requires-clause-along : goal.last_step-requires-clause-along
last_step-requires-clause-along g c = all-along c.args.setting.plan.program.now.along c.args.setting.plan.graph.now c.args.kernel.now.rows c.requires.setting.along

pub last_step-requires-clause-behind : goal.last_step-requires-clause-behind
last_step-requires-clause-behind g c =
    let m = c.args.setting.matrix.now in
    let u = c.args.before.view.0 in
    let v = c.args.view.0 in
    let old = c.requires.old in
    let new = c.deref.ensures.value ∙ turned-by m u v c.args.old.now c.in_ok-new.new.items c.as_slice.result.now old (c.as_slice.ensures ∙ c.in_ok-turned.ensures) c.in_ok-new.ensures in
    let turned = c.as_slice-2.ensures ∙ c.in_ok-turned.ensures in
    record {
      old = ap (λ (bs : List Bool). length bs) old ∙ flags-count m u ∙ c.requires.setting.matrix;
      new = ap (λ (bs : List Bool). length bs) new ∙ flags-count m v ∙ c.requires.setting.matrix;
      turned = subst (λ (es : List EdgeNo). All (λ e. e.0 < length c.args.setting.plan.graph.now.ends) es) (sym turned)
          (subst (λ (n : ℕ). All (λ e. e.0 < n) (apart m (Some u) v)) c.requires.setting.matrix (apart-within m u v));
      all_turned = subst (λ (bs : List Bool). TellsAll bs c.deref.result.now c.as_slice-2.result.now) (sym old)
          (subst (λ (bs : List Bool). TellsAll (flags_of m u) bs c.as_slice-2.result.now) (sym new)
          (subst (λ (es : List EdgeNo). TellsAll (flags_of m u) (flags_of m v) es) (sym turned) (apart-tells m u v)));
      history = history-before g.U.Updater.answer c.args.setting c.args.kernel.now c.requires.setting u c.args.old.now c.args.before.history.now old c.requires.history;
    }

pub returns-then-setting-clause-step : goal.returns-then-setting-clause-step
returns-then-setting-clause-step g c =
    let m = c.args.setting.matrix.now in
    let u = c.args.before.view.0 in
    let v = c.args.view.0 in
    let new = c.deref.ensures.value ∙ turned-by m u v c.args.old.now c.in_ok-new.new.items c.as_slice.result.now c.requires.old (c.as_slice.ensures ∙ c.in_ok-turned.ensures) c.in_ok-new.ensures in
    let step = c.in_ok-stepped.ensures.step in
    let made = c.kept.ensures in
    later-given g.U.Updater.answer c.args.setting c.args.kernel.now c.requires.setting c.args.view.0 c.deref.result.now new c.kept.result.ended (made.outcome ∙ step.outcome)
    c.args.before.view.0 c.args.old.now c.requires.old (made.change ∙ step.change) (made.work ∙ step.work_is)

pub returns-then-setting-clause-kept : goal.returns-then-setting-clause-kept
returns-then-setting-clause-kept g c =
    let m = c.args.setting.matrix.now in
    let u = c.args.before.view.0 in
    let v = c.args.view.0 in
    let new = c.deref.ensures.value ∙ turned-by m u v c.args.old.now c.in_ok-new.new.items c.as_slice.result.now c.requires.old (c.as_slice.ensures ∙ c.in_ok-turned.ensures) c.in_ok-new.ensures in
    let h = c.in_ok-stepped.stepped.history in
    λ yes.
    subst (λ (o : Option History). HistoryOf (task_in g.U.Updater.answer c.args.setting) (Some v) o) (sym c.kept.ensures.history)
    (history-behind g.U.Updater.answer c.args.setting c.args.kernel.now c.requires.setting v c.deref.result.now h new c.in_ok-stepped.ensures.step.history)

pub returns-then-setting-clause-flags : goal.returns-then-setting-clause-flags
returns-then-setting-clause-flags g c =
    ap (λ (v : Vec Bool Global). v.items) c.kept.ensures.flags
    ∙ turned-by c.args.setting.matrix.now c.args.before.view.0 c.args.view.0 c.args.old.now c.in_ok-new.new.items c.as_slice.result.now c.requires.old (c.as_slice.ensures ∙ c.in_ok-turned.ensures) c.in_ok-new.ensures

pub returns-clause-step : goal.returns-clause-step
returns-clause-step g c =
    let m = c.args.setting.matrix.now in
    let u = c.args.before.view.0 in
    let v = c.args.view.0 in
    let new = c.deref.ensures.value ∙ turned-by m u v c.args.old.now c.in_ok-new.new.items c.as_slice.result.now c.requires.old (c.as_slice.ensures ∙ c.in_ok-turned.ensures) c.in_ok-new.ensures in
    let step = c.in_ok-ended.ensures.step in
    let made = c.passed.ensures in
    later-given g.U.Updater.answer c.args.setting c.args.kernel.now c.requires.setting c.args.view.0 c.deref.result.now new c.passed.result.ended (ap (λ (e : Ended). e.outcome) made.ended ∙ step.outcome)
    c.args.before.view.0 c.args.old.now c.requires.old (ap (λ (e : Ended). e.change) made.ended ∙ step.change) (ap (λ (e : Ended). e.work) made.ended ∙ step.work_is)

pub returns-clause-flags : goal.returns-clause-flags
returns-clause-flags g c =
    ap (λ (v : Vec Bool Global). v.items) c.passed.ensures.flags
    ∙ turned-by c.args.setting.matrix.now c.args.before.view.0 c.args.view.0 c.args.old.now c.in_ok-new.new.items c.as_slice.result.now c.requires.old (c.as_slice.ensures ∙ c.in_ok-turned.ensures) c.in_ok-new.ensures
