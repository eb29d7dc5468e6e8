use Rattle.std.proofs.Common.{◌≡◌, take}
use Rattle.change_lists.specs.ChangeLists.{changes_from}
use Rattle.change_lists.proofs.values.changes_between.Given as goal

abbrev pub invariant-loop-node : goal.invariant-loop-node
invariant-loop-node l = l.changes ≡ changes_from 0 (take l.node l.old) (take l.node l.new)
