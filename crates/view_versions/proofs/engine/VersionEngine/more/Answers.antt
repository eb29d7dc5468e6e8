use Rattle.std.proofs.Common.{arith}
use Rattle.view_order.specs.Greedy.{numbers}
use Rattle.view_segment.specs.Segments.{last_of}
use Rattle.view_versions.specs.Engines.{task_of}
use Rattle.view_versions.proofs.Behind.{works-most}
use Rattle.view_versions.proofs.engine.VersionEngine.more.Goals as goal

pub returns-in-Ok-clause-most : goal.returns-in-Ok-clause-most
returns-in-Ok-clause-most g c =
    let e = c.args.self.now in
    let m = c.args.matrix.now in
    omega (arith, c.in-Ok.ensures.calls, works-most (task_of g.U.Updater.answer m e) (last_of (numbers e.order)) c.args.views.now)
