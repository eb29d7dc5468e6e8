use Rattle.std.proofs.Common.{◌≡◌, ◌++◌, map, take}
use Rattle.diff_reduce.proofs.keys.push_fed.Given as goal

abbrev pub invariant-loop-entry : goal.invariant-loop-entry
invariant-loop-entry g l = l.keys ≡ l.fn.keys ++ map (λ e. e.0.0) (take l.entry-index l.delta)
