-- The lines of one more segment.
use Rattle.view_engine.specs.Engines.{segments_in}
use Rattle.surge_session.proofs.WorkTexts.{segment_more}
use Rattle.surge_session.proofs.work.push_segments.Goals as goal

pub loop-number-preserved : goal.loop-number-preserved
loop-number-preserved c = record {
  text = segment_more c.args.views.now (segments_in c.args.engine.now) c.loop-number.number c.segment.result.now c.args.text.now.items c.loop-number.text.items c.push_segment.new.text.items c.segment.ensures c.loop-number.invariant.text c.in_ok-push_segment.ensures;
}
