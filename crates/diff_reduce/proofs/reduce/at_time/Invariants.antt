use Rattle.std.proofs.Common.{◌≡◌, map, take}
use Rattle.diff_reduce.proofs.reduce.at_time.Given as goal

abbrev pub invariant-loop-key : goal.invariant-loop-key
invariant-loop-key g l = l.pairs.items ≡ map (λ k. (k, l.t)) (take l.key-index l.keys)
