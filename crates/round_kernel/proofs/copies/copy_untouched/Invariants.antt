use Rattle.std.proofs.Common.{◌≡◌, ◌++◌, take, filter, get_or, false}
use Rattle.std.specs.Prelude.{not}
use Rattle.round_kernel.proofs.copies.copy_untouched.Given as goal

abbrev pub invariant-loop-change : goal.invariant-loop-change
invariant-loop-change l = l.made ≡ l.initial.made ++ filter (λ c. not (get_or l.touched c.node.0 false)) (take l.change-index l.changes)
