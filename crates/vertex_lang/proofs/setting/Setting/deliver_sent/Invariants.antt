use Rattle.std.proofs.Common.{take}
use Rattle.vertex_lang.specs.Rounds.{carried}
use Rattle.vertex_lang.specs.Mail.{HasMail, AreBounded}
use Rattle.vertex_lang.proofs.setting.Setting.deliver_sent.Given as goal

abbrev pub invariant-loop-arc : goal.invariant-loop-arc
invariant-loop-arc l = record {
  mail : HasMail l.self.program.now.gather (carried l.self.program.now l.self.graph.now l.self.arcs.now l.values) (take l.arc-index l.self.arcs.now) l.mail;
  bounded : AreBounded l.mail;
}
