use Rattle.std.proofs.Common.{refl, arith}
use Rattle.view_versions.specs.Edits.{taken_back}
use Rattle.view_versions.proofs.Holding.{held-still, still-nothing}
use Rattle.view_versions.proofs.Turning.{still}
use Rattle.view_versions.proofs.running.renew.Goals as goal

pub returns-then-not-is_turned-clause-holds : goal.returns-then-not-is_turned-clause-holds
returns-then-not-is_turned-clause-holds g c =
    let s = c.args.setting in
    let m = s.matrix.now in
    let cs = c.args.changes.now in
    let run = c.args.run.now in
    held-still g.U.Updater.answer s.program.now s.graph.now s.rounds (taken_back m cs) m run (still m cs c.requires.edits run.view.0 (c.if-not-is_turned.ensures refl)) c.requires.holds

pub returns-then-not-is_turned-clause-calls : goal.returns-then-not-is_turned-clause-calls
returns-then-not-is_turned-clause-calls g c =
    let s = c.args.setting in
    let m = s.matrix.now in
    let cs = c.args.changes.now in
    let v = c.args.run.now.view.0 in
    omega (arith, still-nothing g.U.Updater.answer s.program.now s.graph.now s.rounds (taken_back m cs) m v (still m cs c.requires.edits v (c.if-not-is_turned.ensures refl)))
