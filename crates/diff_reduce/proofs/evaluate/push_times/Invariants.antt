use Rattle.std.proofs.Common.{◌≡◌, ◌++◌, map, take}
use Rattle.diff_reduce.proofs.evaluate.push_times.Given as goal

abbrev pub invariant-loop-entry : goal.invariant-loop-entry
invariant-loop-entry g l = l.times ≡ l.fn.times ++ map (λ e. e.0.1) (take l.entry-index l.entries)
