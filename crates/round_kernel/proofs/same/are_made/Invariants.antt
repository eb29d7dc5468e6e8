use Rattle.std.proofs.Common.{◌≡◌, take, get_or, true, false}
use Rattle.std.specs.Prelude.{All, Contains}
use Rattle.round_kernel.proofs.same.are_made.Given as goal

abbrev pub invariant-loop-change : goal.invariant-loop-change
invariant-loop-change l = All (λ c. get_or l.touched c.node.0 false ≡ true → Contains l.found c) (take l.change-index l.listed)
