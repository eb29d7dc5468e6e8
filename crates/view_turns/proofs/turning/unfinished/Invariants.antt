use Rattle.std.proofs.Common.{◌≡◌, take}
use Rattle.view_turns.specs.Turns.{unfinished_from}
use Rattle.view_turns.proofs.turning.unfinished.Given as goal

abbrev pub invariant-loop-number : goal.invariant-loop-number
invariant-loop-number l = record {
  left : l.left.items ≡ unfinished_from 0 (take l.number l.engine.segments.items);
}
