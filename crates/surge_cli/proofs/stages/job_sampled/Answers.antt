-- The script of the sample is read, and then the job is made of it.
use Rattle.sample_data.specs.Sample.{script_text}
use Rattle.surge_cli.specs.Expected.{job_sampled}
use Rattle.surge_cli.proofs.Expecting.{text_goes_on, parse_stops}
use Rattle.surge_cli.proofs.stages.job_sampled.Goals as goal

pub returns-in-Ok-clause-said : goal.returns-in-Ok-clause-said
returns-in-Ok-clause-said c = text_goes_on (job_sampled c.args.number c.args.task) script_text c.in-Ok.script c.job_over_sample.result c.in-Ok.ensures.ok c.job_over_sample.ensures.said

pub returns-in-Err-clause-said : goal.returns-in-Err-clause-said
returns-in-Err-clause-said c = parse_stops (job_sampled c.args.number c.args.task) script_text c.in-Err.status c.in-Err.ensures.err
