use Rattle.std.proofs.Common.{◌≡◌, ◌++◌, map}
use Rattle.diff_reduce.proofs.pairs.push_all.Given as goal

abbrev pub invariant-loop-pair : goal.invariant-loop-pair
invariant-loop-pair g l = l.seconds ++ map (λ p. p.1) l.pair-iterator ≡ l.fn.seconds ++ map (λ p. p.1) l.fn.pairs
