-- The data are read, and then the plan is made over them.
use Rattle.surge_cli.specs.Expected.{grouped_for, job_over}
use Rattle.surge_cli.specs.Reaches.{ReachesData}
use Rattle.surge_cli.specs.Stages.{seen}
use Rattle.surge_cli.proofs.Endings.{inner_stages}
use Rattle.surge_cli.proofs.Reaching.{inner_counts}
use Rattle.surge_cli.proofs.Saying.{goes_on, stops, here}
use Rattle.surge_cli.proofs.stages.job_for.Goals as goal

pub returns-in-Ok-clause-said : goal.returns-in-Ok-clause-said
returns-in-Ok-clause-said g c =
    let held = (g.F.NamedFiles.state c.args.files.now).held in
    goes_on held (λ files. grouped_for files c.args.script) (λ files w. job_over c.args.task c.args.script w) (seen c.in-Ok.loaded) c.job_over.result
    c.in-Ok.ensures.said (here held (job_over c.args.task c.args.script (seen c.in-Ok.loaded)) c.job_over.result c.job_over.ensures.said)

pub returns-in-Err-clause-said : goal.returns-in-Err-clause-said
returns-in-Err-clause-said g c =
    let held = (g.F.NamedFiles.state c.args.files.now).held in
    stops held (λ files. grouped_for files c.args.script) (λ files w. job_over c.args.task c.args.script w) c.in-Err.status c.in-Err.ensures.said

pub returns-in-Ok-clause-stage : goal.returns-in-Ok-clause-stage
returns-in-Ok-clause-stage g c = inner_stages c.job_over.result c.job_over.ensures.inner

pub returns-in-Ok-clause-causes : goal.returns-in-Ok-clause-causes
returns-in-Ok-clause-causes g c =
    let old = g.F.NamedFiles.state c.args.files.now in
    inner_counts (ReachesData old.held c.args.script) c.job_over.result old (g.F.NamedFiles.state c.load_all.new.files) c.job_over.ensures.inner
