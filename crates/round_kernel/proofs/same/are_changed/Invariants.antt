use Rattle.std.proofs.Common.{◌≡◌, take, true}
use Rattle.std.specs.Prelude.{All}
use Rattle.change_lists.specs.ChangeLists.{is_changed}
use Rattle.round_kernel.proofs.same.are_changed.Given as goal

abbrev pub invariant-loop-change : goal.invariant-loop-change
invariant-loop-change l = All (λ c. is_changed c.node.0 l.listed ≡ true) (take l.change-index l.found)
