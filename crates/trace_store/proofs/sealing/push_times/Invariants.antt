use Rattle.std.proofs.Common.{◌≡◌, ◌+◌, ◌++◌, take}
use Rattle.weighted.specs.WordLaws.{mapped}
use Rattle.trace_store.proofs.sealing.push_times.Given as goal

abbrev pub invariant-loop-time : goal.invariant-loop-time
invariant-loop-time g l = record {
  items : l.made.items ≡ l.fn.made.items ++ mapped (λ s. (l.pair, s)) (take l.time-index l.times);
  spare : l.made.spare + l.time-index ≡ l.fn.made.spare;
}
