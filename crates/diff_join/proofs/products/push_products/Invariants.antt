use Rattle.std.proofs.Common.{◌≡◌, ◌++◌, take}
use Rattle.diff_join.specs.Joins.{at_bound, unkeyed}
use Rattle.diff_join.proofs.Pushing.{pushed}
use Rattle.diff_join.proofs.products.push_products.Given as goal

abbrev pub invariant-loop-record : goal.invariant-loop-record
invariant-loop-record g l = l.products.items ≡ l.initial.products.items ++ pushed (at_bound g.T.Time.lub (unkeyed (g.F.Pairing.gives l.pairing)) l.t) (l.key, l.value) l.weight (take l.record-index l.entries)
