use Rattle.std.proofs.Common.{◌≡◌, ◌++◌, take}
use Rattle.weighted.specs.Alike.{negated}
use Rattle.diff_reduce.proofs.evaluate.push_taken.Given as goal

abbrev pub invariant-loop-output : goal.invariant-loop-output
invariant-loop-output g l = l.given ≡ l.fn.given ++ negated (take l.output-index l.before)
