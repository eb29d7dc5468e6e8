-- The phases so far are quiet.
use Rattle.std.proofs.Common.{◌≡◌, ◌+◌, ◌*◌, ◌≤◌, length}
use Rattle.vertex_lang.specs.Phases.{phase_values, AreQuiet}
use Rattle.phase_runs.proofs.course.Course.run_over.Given as goal

abbrev pub invariant-loop-phase : goal.invariant-loop-phase
invariant-loop-phase g l = record {
  size : length l.values ≡ length l.self.graph.now.ids;
  values : l.values ≡ phase_values g.U.Updater.answer l.self.program.now l.self.graph.now l.self.starts.now l.arcs l.self.rounds l._phase;
  quiet : AreQuiet g.U.Updater.answer l.self.program.now l.self.graph.now l.self.starts.now l.arcs l.self.rounds l._phase;
  calls : g.U.Counted.calls l.updater ≤ g.U.Counted.calls l.initial.updater + length l.self.graph.now.ids * (l.self.rounds * l._phase);
}
