use Rattle.std.proofs.Common.{Some, arith}
use Rattle.lone_work.specs.Work.{node_marked}
use Rattle.lone_work.proofs.Counting.{count-next, one-at-most}
use Rattle.lone_work.proofs.count.count_marks.Goals as goal

pub loop-node-preserved : goal.loop-node-preserved
loop-node-preserved g c = record {
  counted = count-next (λ v. node_marked g.U.Updater.answer c.args.program.now c.args.graph.now (Some c.args.arcs.now) v c.args.round) c.loop-node.node c.loop-node.count c.one_if-count.result c.in_ok-marked.marked c.loop-node.invariant.counted c.in_ok-marked.ensures c.one_if-count.ensures;
  few = omega (arith, c.loop-node.invariant.few, one-at-most c.in_ok-marked.marked c.one_if-count.result c.one_if-count.ensures);
}
