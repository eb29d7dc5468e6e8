use Rattle.std.proofs.Common.{take}
use Rattle.change_lists.specs.ChangeLists.{AreChanged}
use Rattle.change_lists.proofs.values.catch_up_each.Given as goal

abbrev pub invariant-loop-change : goal.invariant-loop-change
invariant-loop-change l = AreChanged l.initial.before l.now l.before (take l.change-index l.changes)
