use Rattle.std.proofs.Common.{◌≡◌, ◌++◌, take}
use Rattle.weighted.specs.SumLaws.{filtered}
use Rattle.weighted.specs.WordLaws.{mapped}
use Rattle.diff_reduce.proofs.reading.push_values.Given as goal

abbrev pub invariant-loop-entry : goal.invariant-loop-entry
invariant-loop-entry g l = l.values ≡ l.fn.values ++ mapped (λ r. r.0.1) (filtered (λ r. g.T.Time.leq r.1 l.t) (take l.entry-index l.entries))
