use Rattle.std.proofs.Common.{◌≡◌, ◌≤◌, flat_map, take}
use Rattle.surge_outside.specs.Written.{appended}
use Rattle.surge_session.proofs.groups.write_texts.Given as goal

abbrev pub invariant-loop-text : goal.invariant-loop-text
invariant-loop-text g l = record {
  written : g.O.Sink.written l.out ≡ appended (g.O.Sink.written l.fn.out) (flat_map (λ text. text) (take l.text-index l.texts));
  faults : g.O.Sink.faults l.fn.out ≤ g.O.Sink.faults l.out;
}
