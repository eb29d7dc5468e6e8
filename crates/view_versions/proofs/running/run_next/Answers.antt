use Rattle.std.proofs.Common.{sym, subst}
use Rattle.std.specs.Prelude.{All}
use Rattle.view_versions.specs.declared.run.ViewRun.{ViewRun}
use Rattle.view_versions.specs.Runs.{HoldsRun, task_in}
use Rattle.view_versions.proofs.Holding.{one-more}
use Rattle.view_versions.proofs.running.run_next.Goals as goal

pub returns-clause-holds : goal.returns-clause-holds
returns-clause-holds g c =
    let task = task_in g.U.Updater.answer c.args.setting in
    let stepped = c.in_ok-stepped.stepped in
    let step = c.in_ok-stepped.ensures.step in
    let made : ViewRun = record { view = c.args.view; history = stepped.history; outcome = stepped.outcome } in
    subst (All (HoldsRun task)) (sym c.in_ok-push.ensures.items) (one-more (HoldsRun task) c.args.runs.now.items made c.requires.holds (record { history = step.history; outcome = step.outcome }))
