use Rattle.std.proofs.Common.{◌≡◌, ◌++◌, take}
use Rattle.view_order.specs.Greedy.{numbers}
use Rattle.surge_session.specs.Output.{segment_lines}
use Rattle.surge_session.proofs.work.push_segment.Given as goal

abbrev pub invariant-loop-i : goal.invariant-loop-i
invariant-loop-i l = record {
  text : l.text.items ≡ l.fn.text.items ++ segment_lines l.views l.number (numbers l.segment.views) (take l.i l.segment.works);
}
