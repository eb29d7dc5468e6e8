use Rattle.std.proofs.Common.{◌≡◌, take, get_or, true, false}
use Rattle.std.specs.Prelude.{All}
use Rattle.change_lists.specs.ChangeLists.{is_listed}
use Rattle.round_kernel.proofs.same.are_found.Given as goal

abbrev pub invariant-loop-node : goal.invariant-loop-node
invariant-loop-node l = All (λ n. get_or l.touched n.0 false ≡ true → is_listed n.0 l.found ≡ true) (take l.node-index l.shown)
