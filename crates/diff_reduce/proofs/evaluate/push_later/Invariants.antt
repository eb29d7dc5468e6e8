use Rattle.std.proofs.Common.{◌≡◌, ◌++◌, take}
use Rattle.diff_reduce.specs.Later.{later_of}
use Rattle.diff_reduce.proofs.evaluate.push_later.Given as goal

abbrev pub invariant-loop-mark : goal.invariant-loop-mark
invariant-loop-mark g l = l.later.items ≡ l.fn.later.items ++ later_of g.T.Time.leq g.T.Time.lub g.T.Ord.cmp l.t l.last l.key (take l.mark-index l.marks)
