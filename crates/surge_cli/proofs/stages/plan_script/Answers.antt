-- The plan is what the check answers.
use Rattle.std.proofs.Common.{◌∙◌, Ok, Err, ap}
use Rattle.gvdl_check.specs.declared.fault.CheckFault.TheVariants as fault
use Rattle.gvdl_check.specs.Plans.{plan}
use Rattle.surge_cli.proofs.Planning.{plan_said}
use Rattle.surge_cli.proofs.stages.plan_script.Goals as goal

pub returns-in-Ok-clause-said : goal.returns-in-Ok-clause-said
returns-in-Ok-clause-said c = plan_said (plan c.args.script.now c.args.graph.now c.args.groups.now) c.check.result (Ok c.in-Ok.plan) c.check.ensures.exact c.in-Ok.is

pub returns-in-Err-Fault-clause-said : goal.returns-in-Err-Fault-clause-said
returns-in-Err-Fault-clause-said c = plan_said (plan c.args.script.now c.args.graph.now c.args.groups.now) c.check.result (Err (fault.Fault c.in-Err-Fault.fault)) c.check.ensures.exact (c.in-Err-Fault.is ∙ ap Err c.in-Err-Fault.field-0-is)

pub returns-in-Err-BadForm-clause-said : goal.returns-in-Err-BadForm-clause-said
returns-in-Err-BadForm-clause-said c = plan_said (plan c.args.script.now c.args.graph.now c.args.groups.now) c.check.result (Err fault.BadForm) c.check.ensures.exact (c.in-Err-BadForm.is ∙ ap Err c.in-Err-BadForm.field-0-is)
