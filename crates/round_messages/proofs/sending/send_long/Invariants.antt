use Rattle.std.proofs.Common.{◌≡◌, ◌<◌, ℕ, length, get_or}
use Rattle.vertex_lang.specs.Expressions.{sent_by}
use Rattle.vertex_lang.specs.Rounds.{value_at}
use Rattle.message_forms.specs.Codes.{number_at}
use Rattle.round_messages.proofs.sending.send_long.Given as goal

abbrev pub invariant-loop-node : goal.invariant-loop-node
invariant-loop-node l = record {
  size : length l.long.items ≡ l.node;
  kept : (u e : ℕ) → u < l.node → number_at l.long.items u ≡ sent_by l.sender.program.now l.sender.graph.now u (value_at l.values u) (get_or l.sender.degrees.now u 0) e;
}
