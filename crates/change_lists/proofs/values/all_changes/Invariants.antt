use Rattle.std.proofs.Common.{◌≡◌, take}
use Rattle.change_lists.specs.ChangeLists.{all_from}
use Rattle.change_lists.proofs.values.all_changes.Given as goal

abbrev pub invariant-loop-node : goal.invariant-loop-node
invariant-loop-node l = l.changes ≡ all_from 0 (take l.node l.new)
