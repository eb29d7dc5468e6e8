-- One more fetch gives bytes that come next in the file.
use Rattle.std.proofs.Common.{arith, rules, ◌∙◌}
use Rattle.room_rows.proofs.Reading.{read-step}
use Rattle.room_rows.proofs.tests.files.read_whole.Goals as goal

pub loop-buf-preserved : goal.loop-buf-preserved
loop-buf-preserved g c = record {
  read = read-step _ _ _ c.loop-buf.bytes.items _ _ _ c.in-Bytes.count _ c.loop-buf.invariant.read c.loop-buf.invariant.held (search rules) c.in-Bytes.is c.in_ok-fetch.ensures.answer (search rules);
  held = c.in_ok-fetch.ensures.held ∙ c.loop-buf.invariant.held;
  faults = omega arith;
  absences = omega arith;
}
