use Rattle.std.proofs.Common.{◌≡◌, ◌++◌, take}
use Rattle.view_engine.specs.Engines.{segments_in}
use Rattle.surge_session.specs.WorkLines.{lines_of}
use Rattle.surge_session.proofs.work.push_segments.Given as goal

abbrev pub invariant-loop-number : goal.invariant-loop-number
invariant-loop-number l = record {
  text : l.text.items ≡ l.fn.text.items ++ lines_of l.views 1 (take l.number (segments_in l.engine));
}
