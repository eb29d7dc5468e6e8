use Rattle.std.proofs.Common.{◌≡◌, ◌++◌, map, take}
use Rattle.trace_store.proofs.lookup.push_times.Given as goal

abbrev pub invariant-loop-entry : goal.invariant-loop-entry
invariant-loop-entry g l = l.times.items ≡ l.fn.times.items ++ map (λ e. e.0.1) (take l.entry-index l.entries)
