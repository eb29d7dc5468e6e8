use Rattle.std.proofs.Common.{◌∙◌, Some, refl, subst, sym}
use Rattle.vertex_lang.specs.Lone.{number_of}
use Rattle.change_lists.specs.declared.history.History.{History}
use Rattle.arc_rows.specs.Views.{arcs_in}
use Rattle.round_kernel.specs.Histories.{IsHistory}
use Rattle.round_kernel.proofs.kernel.Kernel.next_step.Goals as goal

pub returns-clause-step : goal.returns-clause-step
returns-clause-step g c =
    let logged = c.in_ok-logged.ensures.step in
    let made = c.stepped.ensures in
    record {
      history = subst (λ (h : History). IsHistory g.U.Updater.answer c.args.plan.program.now c.args.plan.graph.now (Some (arcs_in c.args.self.now.rows.by_head c.args.behind.new.now)) (number_of c.args.plan.rounds) h) (sym made.history) (logged.history refl);
      outcome = made.outcome ∙ logged.step.outcome;
      change = made.change ∙ logged.step.change;
      work_is = made.work ∙ logged.step.work_is;
    }
