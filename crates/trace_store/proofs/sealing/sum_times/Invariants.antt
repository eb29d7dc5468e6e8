use Rattle.std.proofs.Common.{◌≡◌, ◌-◌, take, drop}
use Rattle.weighted.specs.WordLaws.{mapped}
use Rattle.trace_store.proofs.sealing.sum_times.Given as goal

abbrev pub invariant-loop-i : goal.invariant-loop-i
invariant-loop-i g l = l.read ≡ mapped (λ r. g.T.Time.lub r.1 l.f) (take (l.i - l.start) (drop l.start l.layer))
