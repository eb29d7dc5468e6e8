-- One more segment.
use Rattle.view_turns.proofs.Unfinished.{through}
use Rattle.view_turns.proofs.turning.unfinished.Goals as goal

pub loop-number-preserved : goal.loop-number-preserved
loop-number-preserved c = record {
  left = through c.args.engine.now.segments.items c.loop-number.number c.segment.result.now c.loop-number.left.items c.push_unfinished.new.left.items c.segment.ensures c.loop-number.invariant.left c.in_ok-push_unfinished.ensures;
}
