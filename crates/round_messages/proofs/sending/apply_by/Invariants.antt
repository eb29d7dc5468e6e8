use Rattle.std.proofs.Common.{◌≡◌, take, length, List, true}
use Rattle.std.specs.Prelude.{All}
use Rattle.graph_model.specs.declared.value.Val.{Val}
use Rattle.vertex_lang.specs.Rounds.{value_at}
use Rattle.change_lists.specs.ChangeLists.{AreChanged}
use Rattle.round_messages.specs.Sides.{AreSent}
use Rattle.round_messages.proofs.sending.apply_by.Given as goal

abbrev pub invariant-loop-change : goal.invariant-loop-change
invariant-loop-change l = record {
  changed : (after : List Val) → All (λ c. c.value ≡ value_at after c.node.0) l.changes → AreChanged l.initial.now after l.now (take l.change-index l.changes);
  size : length l.now ≡ length l.initial.now;
  only : l.kept ≡ true → l.alike ≡ true;
  sent : AreSent l.kept l.sender.program.now l.sender.graph.now l.sender.degrees.now l.now l.sent;
}
