use Rattle.std.proofs.Common.{◌≡◌, take, get_or, true, false}
use Rattle.std.specs.Prelude.{All}
use Rattle.round_kernel.proofs.same.are_flagged.Given as goal

abbrev pub invariant-loop-node : goal.invariant-loop-node
invariant-loop-node l = All (λ n. get_or l.flags n.0 false ≡ true) (take l.node-index l.nodes)
