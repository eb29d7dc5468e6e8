use Rattle.std.proofs.Common.{Some, arith}
use Rattle.lone_work.specs.Work.{node_counted}
use Rattle.lone_work.proofs.Counting.{count-next, one-at-most}
use Rattle.lone_work.proofs.count.count_round.Goals as goal

pub loop-node-preserved : goal.loop-node-preserved
loop-node-preserved g c = record {
  counted = count-next (λ v. node_counted g.U.Updater.answer c.args.program.now c.args.graph.now c.args.new.now (Some c.args.old.now) v c.args.round) c.loop-node.node c.loop-node.count c.one_if-count.result c.in_ok-counted.counted c.loop-node.invariant.counted c.in_ok-counted.ensures c.one_if-count.ensures;
  few = omega (arith, c.loop-node.invariant.few, one-at-most c.in_ok-counted.counted c.one_if-count.result c.one_if-count.ensures);
}
