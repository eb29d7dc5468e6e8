use Rattle.std.proofs.Common.{◌≡◌, ◌<◌, ℕ}
use Rattle.vertex_lang.specs.Expressions.{sent_by}
use Rattle.vertex_lang.specs.Arcs.{outdeg}
use Rattle.vertex_lang.specs.Rounds.{value_at}
use Rattle.vertex_lang.proofs.setting.Setting.send_all.Given as goal

abbrev pub invariant-loop-node : goal.invariant-loop-node
invariant-loop-node l = (u edge : ℕ) → u < l.node → value_at l.sent u ≡ sent_by l.self.program.now l.self.graph.now u (value_at l.values u) (outdeg l.self.arcs.now u) edge
