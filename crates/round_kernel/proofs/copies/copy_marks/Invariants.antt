use Rattle.std.proofs.Common.{◌≡◌, ◌++◌, take, filter, get_or, false}
use Rattle.std.specs.Prelude.{not}
use Rattle.round_kernel.proofs.copies.copy_marks.Given as goal

abbrev pub invariant-loop-node : goal.invariant-loop-node
invariant-loop-node l = l.made ≡ l.initial.made ++ filter (λ n. not (get_or l.touched n.0 false)) (take l.node-index l.marks)
