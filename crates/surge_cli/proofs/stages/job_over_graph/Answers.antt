-- All edges came with one file.
use Rattle.std.proofs.Common.{sym, subst, inl}
use Rattle.surge_cli.specs.Expected.{Grouped, job_over}
use Rattle.surge_cli.specs.Stages.{IsSaid, IsInner, IsOutside}
use Rattle.surge_cli.proofs.stages.job_over_graph.Goals as goal

pub returns-in-Ok-clause-said : goal.returns-in-Ok-clause-said
returns-in-Ok-clause-said c = subst (λ (w : Grouped). IsSaid (job_over c.args.task c.args.script w) c.job_over.result) c.in-Ok.ensures.said c.job_over.ensures.said

pub returns-in-Err-clause-said : goal.returns-in-Err-clause-said
returns-in-Err-clause-said c = inl (subst IsOutside (sym c.in-Err.ensures.memory) tt)

pub returns-in-Err-clause-inner : goal.returns-in-Err-clause-inner
returns-in-Err-clause-inner c = subst IsInner (sym c.in-Err.ensures.memory) tt
