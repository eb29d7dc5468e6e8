use Rattle.std.proofs.Common.{sym, subst}
use Rattle.arc_rows.specs.declared.rows.Rows.{Rows}
use Rattle.arc_rows.specs.RowLists.{AreOfAll}
use Rattle.view_versions.specs.Engines.{task_of}
use Rattle.view_versions.proofs.Holding.{sound-runs}
use Rattle.view_versions.proofs.engine.VersionEngine.run_behind.Goals as goal

pub returns-clause-engine : goal.returns-clause-engine
returns-clause-engine g c =
    let e = c.args.self.now in
    let is = c.requires.engine in
    let made = c.in_ok-run_views.ensures in
    record {
      checked = is.checked;
      some = is.some;
      limit = is.limit;
      ready = (made.kernel, subst (λ (rows : Rows). AreOfAll e.program.now.along e.graph.now rows) (sym c.run_views.ensures.rows) c.in_ok-kernel.ensures.1);
      sound = sound-runs (task_of g.U.Updater.answer c.args.matrix.now e) c.run_views.new.runs.items made.holds;
    }
