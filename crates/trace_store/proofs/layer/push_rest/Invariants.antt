use Rattle.std.proofs.Common.{◌≡◌, ◌≤◌, ◌+◌, ◌-◌, ◌++◌, length, take, drop}
use Rattle.trace_store.proofs.layer.push_rest.Given as goal

abbrev pub invariant-loop-i : goal.invariant-loop-i
invariant-loop-i g l = record {
  items : l.entries.items ≡ l.fn.entries.items ++ take (l.i - l.from) (drop l.from l.layer);
  spare : l.entries.spare + (l.i - l.from) ≡ l.fn.entries.spare;
}
