use Rattle.std.proofs.Common.{List, subst}
use Rattle.std.specs.Prelude.{IfOk}
use Rattle.vertex_lang.specs.declared.arc.Arc.{Arc}
use Rattle.round_kernel.specs.Steps.{IsFirstLogged}
use Rattle.round_kernel.proofs.kernel.Kernel.first_logged.Goals as goal

pub first_step-requires-clause-plan : goal.first_step-requires-clause-plan
first_step-requires-clause-plan g c = record {
  checked = c.requires.plan.checked;
  kernel = c.in_ok-chosen.ensures.kernel;
  some = c.requires.plan.some;
  limit = c.requires.plan.limit;
}

pub returns-then-are_few-clause-step : goal.returns-then-are_few-clause-step
returns-then-are_few-clause-step g c =
    subst (λ (xs : List Arc). IfOk c.first_step.result (λ s. IsFirstLogged g.U.Updater.answer c.args.plan xs c.args.keeps s)) c.in_ok-chosen.ensures.new c.first_step.ensures.step
