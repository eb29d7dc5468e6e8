use Rattle.std.proofs.Common.{◌<◌, ◌∙◌, Bool, List, Some, length, ap, subst, sym}
use Rattle.std.specs.Prelude.{All, IfOk}
use Rattle.graph_model.specs.declared.number.EdgeNo.{EdgeNo}
use Rattle.vertex_lang.specs.Lone.{number_of}
use Rattle.arc_rows.specs.RowLaws.{all-along}
use Rattle.arc_rows.specs.Views.{arcs_in, TellsAll}
use Rattle.round_kernel.specs.declared.plan.Plan.{Plan}
use Rattle.round_kernel.specs.Histories.{IsHistory}
use Rattle.view_versions.specs.Runs.{StepIn}
use Rattle.view_versions.proofs.Stepping.{next-of}
use Rattle.view_versions.proofs.step.step_over.Goals as goal

pub next_step-requires-clause-plan : goal.next_step-requires-clause-plan
next_step-requires-clause-plan g c = record {
  checked = c.requires.setting.checked;
  kernel = c.requires.setting.kernel;
  some = c.requires.setting.some;
  limit = c.requires.setting.limit;
}

pub next_step-requires-clause-along : goal.next_step-requires-clause-along
next_step-requires-clause-along g c = all-along c.args.setting.program.now.along c.args.setting.graph.now c.args.kernel.now.rows c.requires.setting.all

pub next_step-requires-clause-behind : goal.next_step-requires-clause-behind
next_step-requires-clause-behind g c =
    let s = c.args.setting in
    let two = c.args.two.now in
    let is = c.requires.two in
    record {
      old = ap (λ (bs : List Bool). length bs) c.deref.ensures.value ∙ is.old;
      new = ap (λ (bs : List Bool). length bs) c.deref-2.ensures.value ∙ is.new;
      turned = subst (λ (es : List EdgeNo). All (λ e. e.0 < length s.graph.now.ends) es) (sym c.as_slice.ensures) is.within;
      all_turned = subst (λ (es : List EdgeNo). TellsAll c.deref.result.now c.deref-2.result.now es) (sym c.as_slice.ensures)
          (subst (λ (bs : List Bool). TellsAll bs c.deref-2.result.now two.turned) (sym c.deref.ensures.value)
          (subst (λ (bs : List Bool). TellsAll two.old.items bs two.turned) (sym c.deref-2.ensures.value) is.tells));
      history = subst (λ (bs : List Bool). IsHistory g.U.Updater.answer s.program.now s.graph.now (Some (arcs_in c.args.kernel.now.rows.by_head bs)) (number_of s.rounds) c.args.history.now) (sym c.deref.ensures.value) c.requires.history;
    }

pub returns-clause-step : goal.returns-clause-step
returns-clause-step g c =
    let answer = g.U.Updater.answer in
    let s = c.args.setting in
    let plan : Plan = record { program = s.program; graph = s.graph; rounds = s.rounds } in
    let all = c.args.kernel.now.rows.by_head in
    let old = c.deref.result.now in
    let new = c.deref-2.result.now in
    subst (λ (bs : List Bool). IfOk c.next_step.result (StepIn answer s (Some (arcs_in all bs)) (arcs_in all c.args.two.now.new.items))) c.deref.ensures.value
    (subst (λ (bs : List Bool). IfOk c.next_step.result (StepIn answer s (Some (arcs_in all old)) (arcs_in all bs))) c.deref-2.ensures.value
    (next-of answer plan (arcs_in all old) (arcs_in all new) c.next_step.result c.next_step.ensures.step))
