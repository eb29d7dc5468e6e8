use Rattle.std.proofs.Common.{◌∙◌, None, arith}
use Rattle.lone_work.proofs.Counting.{work-none, work-more, marks-counted}
use Rattle.lone_work.proofs.count.count_first_work.Goals as goal

pub loop-round-init : goal.loop-round-init
loop-round-init g c = record { total = work-none g.U.Updater.answer c.args.program.now c.args.graph.now c.args.new.now None; few = omega arith }

pub loop-round-preserved : goal.loop-round-preserved
loop-round-preserved g c = record {
  total = work-more g.U.Updater.answer c.args.program.now c.args.graph.now c.args.new.now None c.loop-round.round c.loop-round.total c.in_ok-total.field-0 c.loop-round.invariant.total (c.in_ok-total.ensures.count ∙ marks-counted g.U.Updater.answer c.args.program.now c.args.graph.now c.args.new.now c.loop-round.round);
  few = omega (arith, c.loop-round.invariant.few, c.in_ok-total.ensures.few);
}
