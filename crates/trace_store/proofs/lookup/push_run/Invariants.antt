use Rattle.std.proofs.Common.{◌≡◌, ◌-◌, ◌++◌, take, drop}
use Rattle.trace_store.proofs.lookup.push_run.Given as goal

abbrev pub invariant-loop-i : goal.invariant-loop-i
invariant-loop-i g l = l.entries ≡ l.fn.entries ++ take (l.i - l.fn.run.0) (drop l.fn.run.0 l.layer)
