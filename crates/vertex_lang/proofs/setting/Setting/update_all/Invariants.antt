use Rattle.std.proofs.Common.{◌≡◌, ◌+◌}
use Rattle.vertex_lang.specs.Mail.{next_from}
use Rattle.vertex_lang.proofs.Updates.{IsUpdatedTo}
use Rattle.vertex_lang.proofs.setting.Setting.update_all.Given as goal

abbrev pub invariant-loop-node : goal.invariant-loop-node
invariant-loop-node g l = record {
  updated : IsUpdatedTo (next_from g.U.Updater.answer l.self.program.now l.self.graph.now l.self.starts.now l.mail l.initial.values) l.initial.values l.values l.node l.changed;
  calls : g.U.Counted.calls l.updater ≡ g.U.Counted.calls l.initial.updater + l.node;
}
