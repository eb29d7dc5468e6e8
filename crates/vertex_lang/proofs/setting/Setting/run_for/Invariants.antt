use Rattle.std.proofs.Common.{◌≡◌, ◌+◌, ◌*◌, length}
use Rattle.vertex_lang.specs.Phases.{rounds_from}
use Rattle.vertex_lang.specs.Settings.{HasSizes}
use Rattle.vertex_lang.proofs.setting.Setting.run_for.Given as goal

abbrev pub invariant-loop-round : goal.invariant-loop-round
invariant-loop-round g l = record {
  sizes : HasSizes l.self.graph.now l.lists.values.items l.lists.sent.items l.lists.mail.items;
  values : l.lists.values.items ≡ rounds_from g.U.Updater.answer l.self.program.now l.self.graph.now l.self.starts.now l.self.arcs.now l._round;
  calls : g.U.Counted.calls l.updater ≡ g.U.Counted.calls l.initial.updater + length l.self.graph.now.ids * l._round;
}
