use Rattle.std.proofs.Common.{None, arith}
use Rattle.view_versions.specs.Engines.{task_of}
use Rattle.view_versions.proofs.Behind.{works-most}
use Rattle.view_versions.proofs.engine.VersionEngine.first.Goals as goal

pub returns-in-Ok-clause-most : goal.returns-in-Ok-clause-most
returns-in-Ok-clause-most g c =
    let e = c.args.self.now in
    let m = c.args.matrix.now in
    omega (arith, c.in-Ok.ensures.calls, works-most (task_of g.U.Updater.answer m e) None e.order)
