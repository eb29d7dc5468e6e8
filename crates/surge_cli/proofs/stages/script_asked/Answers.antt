-- A script's job is what is due.
use Rattle.std.proofs.Common.{Ok, Err}
use Rattle.surge_cli.proofs.Expecting.{script_due}
use Rattle.surge_cli.proofs.stages.script_asked.Goals as goal

pub returns-in-Ok-clause-said : goal.returns-in-Ok-clause-said
returns-in-Ok-clause-said g c = script_due (g.F.NamedFiles.state c.args.files.now).held c.args.asked.now.source c.args.asked.now.task (Ok c.in-Ok.job) c.in-Ok.ensures.said

pub returns-in-Err-clause-said : goal.returns-in-Err-clause-said
returns-in-Err-clause-said g c = script_due (g.F.NamedFiles.state c.args.files.now).held c.args.asked.now.source c.args.asked.now.task (Err c.in-Err.status) c.in-Err.ensures.said
