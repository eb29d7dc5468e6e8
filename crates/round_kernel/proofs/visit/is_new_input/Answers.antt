use Rattle.std.proofs.Common.{◌<◌, sym, arith}
use Rattle.std.proofs.lemmas.Bool.{not-true}
use Rattle.arc_rows.specs.Views.{arcs_in}
use Rattle.round_kernel.proofs.Visits.{marked-first}
use Rattle.round_kernel.proofs.Kept.{marked-new}
use Rattle.round_kernel.proofs.visit.is_new_input.Goals as goal

pub returns-then-spot-eq0-clause-marked : goal.returns-then-spot-eq0-clause-marked
returns-then-spot-eq0-clause-marked g c = λ t. sym (marked-first g.U.Updater.answer c.args.spot.now.new.program.now c.args.spot.now.new.graph.now (arcs_in c.args.spot.now.new.rows.now.by_head c.args.spot.now.new.side.edges.now) c.args.spot.now.node.0 c.args.spot.now.new.number c.if-spot-eq0.true)

pub returns-then-not-spot-clause-marked : goal.returns-then-not-spot-clause-marked
returns-then-not-spot-clause-marked g c = λ t.
    let r = c.args.spot.now.new.number in
    let later : 0 < r = omega arith in
    sym (marked-new g.U.Updater.answer c.args.spot.now.new.program.now c.args.spot.now.new.graph.now c.args.spot.now.new.rows.now.by_head c.args.spot.now.old.edges.now c.args.spot.now.new.side.edges.now c.args.spot.now.node.0 r
    c.args.spot.now.first c.args.spot.now.was c.args.spot.now.marked c.requires.spot.was c.requires.touched (c.requires.spot.marked later) c.if-not-spot.true (not-true c.args.spot.now.marked t))
