use Rattle.std.proofs.Common.{arith}
use Rattle.view_versions.specs.Edits.{taken_back}
use Rattle.view_versions.specs.Engines.{task_of}
use Rattle.view_versions.proofs.Behind.{edits-most}
use Rattle.view_versions.proofs.engine.VersionEngine.advance.Goals as goal

pub returns-in-Ok-clause-most : goal.returns-in-Ok-clause-most
returns-in-Ok-clause-most g c =
    let e = c.args.self.now in
    let m = c.args.matrix.now in
    omega (arith, c.in-Ok.ensures.calls, edits-most (task_of g.U.Updater.answer (taken_back m c.args.changes.now) e) (task_of g.U.Updater.answer m e) e.order)
