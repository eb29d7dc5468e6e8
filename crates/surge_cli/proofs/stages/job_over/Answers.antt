-- The plan makes the job.
use Rattle.std.proofs.Common.{◌≡◌, ◌∙◌, List, ℕ, sum, Result, Ok, Err, refl, ap, subst}
use Rattle.gvdl_check.specs.declared.plan.Plan.{Plan}
use Rattle.gvdl_check.specs.Plans.{plan}
use Rattle.surge_cli.specs.declared.job.Job.{Job}
use Rattle.surge_cli.specs.declared.status.Status.{Status}
use Rattle.surge_cli.specs.Expected.{Grouped, planned}
use Rattle.surge_cli.specs.Stages.{IsSaid, seen}
use Rattle.surge_cli.proofs.Saying.{bind_ok, bind_err}
use Rattle.surge_cli.proofs.stages.job_over.Goals as goal

pub returns-in-Ok-clause-said : goal.returns-in-Ok-clause-said
returns-in-Ok-clause-said c =
    let w : Grouped = seen c.args.loaded in
    let job : Plan → Result Job Status = λ p. Ok (record { task = c.args.task; script = c.args.script; graph = w.graph; plan = p }) in
    bind_ok (planned (plan c.args.script w.graph w.groups)) job c.in-Ok.plan (job c.in-Ok.plan)
    (subst (λ (groups : List ℕ). planned (plan c.args.script w.graph groups) ≡ Ok c.in-Ok.plan) c.as_slice.ensures c.in-Ok.ensures.said) refl

pub returns-in-Err-clause-said : goal.returns-in-Err-clause-said
returns-in-Err-clause-said c =
    let w : Grouped = seen c.args.loaded in
    bind_err (planned (plan c.args.script w.graph w.groups)) (λ p. Ok (record { task = c.args.task; script = c.args.script; graph = w.graph; plan = p })) c.in-Err.status
    (subst (λ (groups : List ℕ). IsSaid {A = Plan} (planned (plan c.args.script w.graph groups)) (Err c.in-Err.status)) c.as_slice.ensures c.in-Err.ensures.said)

pub plan_script-requires-clause-groups : goal.plan_script-requires-clause-groups
plan_script-requires-clause-groups c = ap (λ (groups : List ℕ). sum groups) c.as_slice.ensures ∙ c.requires.groups
