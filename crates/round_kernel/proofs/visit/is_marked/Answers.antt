use Rattle.std.proofs.Common.{◌≡◌, ◌-◌, suc, arith}
use Rattle.arc_rows.specs.Views.{arcs_in}
use Rattle.round_kernel.proofs.Kept.{marked-kept}
use Rattle.round_kernel.proofs.visit.is_marked.Goals as goal

pub returns-then-differs : goal.returns-then-differs
returns-then-differs g c =
    let r = c.args.spot.now.new.number in
    let later = c.requires.later in
    let at : r ≡ suc (r - 1) = omega arith in
    marked-kept g.U.Updater.answer c.args.spot.now.new.program.now c.args.spot.now.new.graph.now (arcs_in c.args.spot.now.new.rows.now.by_head c.args.spot.now.new.side.edges.now) c.args.spot.now.node.0 r (r - 1) at
    c.args.kept c.args.now (c.requires.kept later c.if-spot.true) c.requires.now (c.differs.ensures c.if-differs.true)
