use Rattle.std.proofs.Common.{◌≡◌, ◌≤◌, flat_map, take}
use Rattle.surge_outside.specs.Written.{appended}
use Rattle.surge_session.specs.Output.{view_text}
use Rattle.surge_session.specs.State.{shown_graph}
use Rattle.surge_session.proofs.tables.write_texts.Given as goal

abbrev pub invariant-loop-i : goal.invariant-loop-i
invariant-loop-i g l = record {
  written : g.O.Sink.written l.out ≡ appended (g.O.Sink.written l.fn.out) (flat_map (view_text g.U.Updater.answer l.form (shown_graph l.ran.graph.now l.ran.matrix.now) l.ran.run.now l.ran.collection.now.name) (take l.i l.views));
  faults : g.O.Sink.faults l.fn.out ≤ g.O.Sink.faults l.out;
}
