use Rattle.std.proofs.Common.{◌≡◌, ◌≤◌, None, map, take}
use Rattle.surge_outside.specs.Written.{appended}
use Rattle.change_text.specs.Spelling.{changes_text}
use Rattle.surge_session.specs.Output.{blocks_behind, last_table, view_shown}
use Rattle.surge_session.specs.State.{shown_graph}
use Rattle.surge_session.proofs.tables.write_blocks.Given as goal

abbrev pub invariant-loop-i : goal.invariant-loop-i
invariant-loop-i g l = record {
  written : g.O.Sink.written l.out ≡ appended (g.O.Sink.written l.fn.out) (changes_text (blocks_behind l.ran.graph.now None (map (view_shown g.U.Updater.answer (shown_graph l.ran.graph.now l.ran.matrix.now) l.ran.run.now l.ran.collection.now.name) (take l.i l.views))));
  before : l.before ≡ last_table None (map (view_shown g.U.Updater.answer (shown_graph l.ran.graph.now l.ran.matrix.now) l.ran.run.now l.ran.collection.now.name) (take l.i l.views));
  faults : g.O.Sink.faults l.fn.out ≤ g.O.Sink.faults l.out;
}
