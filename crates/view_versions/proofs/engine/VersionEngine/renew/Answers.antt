use Rattle.std.proofs.Common.{◌∙◌, List, sym, subst}
use Rattle.std.specs.Prelude.{All}
use Rattle.graph_model.specs.declared.number.ViewNo.{ViewNo}
use Rattle.arc_rows.specs.declared.rows.Rows.{Rows}
use Rattle.arc_rows.specs.RowLists.{AreOfAll}
use Rattle.view_matrix.specs.Matrices.{IsView}
use Rattle.view_versions.specs.Engines.{task_of}
use Rattle.view_versions.proofs.Holding.{by-views, sound-runs}
use Rattle.view_versions.proofs.Turning.{former-size}
use Rattle.view_versions.proofs.engine.VersionEngine.renew.Goals as goal

pub renew_all-requires-clause-setting : goal.renew_all-requires-clause-setting
renew_all-requires-clause-setting g c =
    let is = c.requires.engine in
    record {
      checked = is.checked;
      some = is.some;
      limit = is.limit;
      kernel = c.in_ok-kernel.ensures.0;
      all = c.in_ok-kernel.ensures.1;
      matrix = sym (former-size c.args.matrix.now c.args.changes.now c.requires.edits) ∙ c.requires.stands.matrix;
    }

pub renew_all-requires-clause-views : goal.renew_all-requires-clause-views
renew_all-requires-clause-views g c =
    by-views (IsView c.args.matrix.now) c.args.self.now.runs.items (subst (λ (views : List ViewNo). All (IsView c.args.matrix.now) views) (sym c.requires.stands.all) c.requires.stands.views)

pub returns-clause-engine : goal.returns-clause-engine
returns-clause-engine g c =
    let e = c.args.self.now in
    let is = c.requires.engine in
    let made = c.in_ok-renew_all.ensures in
    record {
      checked = is.checked;
      some = is.some;
      limit = is.limit;
      ready = (made.kernel, subst (λ (rows : Rows). AreOfAll e.program.now.along e.graph.now rows) (sym c.renew_all.ensures.rows) c.in_ok-kernel.ensures.1);
      sound = sound-runs (task_of g.U.Updater.answer c.args.matrix.now e) c.renew_all.new.runs.items made.holds;
    }

pub returns-clause-stands : goal.returns-clause-stands
returns-clause-stands g c =
    let made = c.in_ok-renew_all.ensures in
    let stands = c.requires.stands in
    record {
      matrix = sym (former-size c.args.matrix.now c.args.changes.now c.requires.edits) ∙ stands.matrix;
      views = stands.views;
      all = made.views ∙ stands.all;
      holds = made.holds;
    }
