use Rattle.std.proofs.Common.{◌≡◌, ◌-◌, ◌++◌, take, drop}
use Rattle.weighted.specs.SumLaws.{filtered}
use Rattle.weighted.specs.WordLaws.{mapped}
use Rattle.trace_store.proofs.lookup.push_values.Given as goal

abbrev pub invariant-loop-i : goal.invariant-loop-i
invariant-loop-i g l = l.values ≡ l.fn.values ++ mapped (λ r. r.0.1) (filtered (λ r. g.T.Time.leq r.1 l.t) (take (l.i - l.start) (drop l.start l.layer)))
