use Rattle.std.proofs.Common.{List, Some, subst, sym}
use Rattle.std.specs.Prelude.{IfOk}
use Rattle.vertex_lang.specs.declared.arc.Arc.{Arc}
use Rattle.vertex_lang.specs.Lone.{number_of}
use Rattle.arc_rows.specs.Views.{arcs_in}
use Rattle.round_kernel.specs.Histories.{IsHistory}
use Rattle.round_kernel.specs.Steps.{IsNextLogged}
use Rattle.round_kernel.proofs.kernel.Kernel.next_logged.Goals as goal

pub next_step-requires-clause-plan : goal.next_step-requires-clause-plan
next_step-requires-clause-plan g c = record {
  checked = c.requires.plan.checked;
  kernel = c.in_ok-chosen.ensures.kernel;
  some = c.requires.plan.some;
  limit = c.requires.plan.limit;
}

pub next_step-requires-clause-along : goal.next_step-requires-clause-along
next_step-requires-clause-along g c = c.in_ok-chosen.ensures.along c.args.plan.program.now.along c.requires.along

pub next_step-requires-clause-behind : goal.next_step-requires-clause-behind
next_step-requires-clause-behind g c =
    let plan = c.args.plan in
    let is = c.requires.behind in
    record {
      old = is.old;
      new = is.new;
      turned = is.turned;
      all_turned = is.all_turned;
      history = subst (λ (xs : List Arc). IsHistory g.U.Updater.answer plan.program.now plan.graph.now (Some xs) (number_of plan.rounds) c.args.behind.history.now) (sym c.in_ok-chosen.ensures.old) is.history;
    }

pub returns-then-are_few-clause-step : goal.returns-then-are_few-clause-step
returns-then-are_few-clause-step g c =
    let answer = g.U.Updater.answer in
    let plan = c.args.plan in
    let step = c.next_step in
    subst (λ (xs : List Arc). IfOk step.result (λ s. IsNextLogged answer plan xs (arcs_in c.args.self.now.rows.by_head c.args.behind.new.now) c.args.keeps s)) c.in_ok-chosen.ensures.old
    (subst (λ (xs : List Arc). IfOk step.result (λ s. IsNextLogged answer plan (arcs_in c.in_ok-chosen.chosen.rows.by_head c.args.behind.old.now) xs c.args.keeps s)) c.in_ok-chosen.ensures.new step.ensures.step)
