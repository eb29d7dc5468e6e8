use Rattle.std.proofs.Common.{arith}
use Rattle.vertex_lang.specs.Lone.{number_of}
use Rattle.lone_work.specs.Inputs.{input}
use Rattle.view_versions.proofs.Same.{differs-here}
use Rattle.view_versions.proofs.slow.differs_over.Goals as goal

pub returns-then-not-same : goal.returns-then-not-same
returns-then-not-same g c =
    let v = c.args.versions in
    let answer = g.U.Updater.answer in
    differs-here (input answer v.program.now v.graph.now c.args.new.now c.args.node) (input answer v.program.now v.graph.now c.args.old.now c.args.node) c.loop-round.round (number_of v.rounds) c.in_ok-same.same c.in_ok-same.ensures c.if-not-same.true (omega arith)
