use Rattle.std.proofs.Common.{◌≡◌, take, map, true, length, List}
use Rattle.std.specs.Prelude.{All}
use Rattle.graph_model.specs.declared.value.Val.{Val}
use Rattle.vertex_lang.specs.Rounds.{value_at}
use Rattle.change_lists.specs.ChangeLists.{AreChanged}
use Rattle.value_codes.specs.Numbers.{AreMessages}
use Rattle.value_codes.specs.ShortCodes.{widened}
use Rattle.value_codes.proofs.codes.follow_short.Given as goal

abbrev pub invariant-loop-change : goal.invariant-loop-change
invariant-loop-change l = record {
  changed : (after : List Val) → All (λ c. c.value ≡ value_at after c.node.0) l.changes → AreChanged l.initial.now after l.now (take l.change-index l.changes);
  size : length l.now ≡ length l.initial.now;
  messages : l.kept ≡ true → AreMessages l.added l.now (map widened l.numbers);
}
