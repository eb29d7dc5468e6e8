use Rattle.std.proofs.Common.{◌≡◌, ◌++◌, take, filter}
use Rattle.round_kernel.specs.Frames.{stirs}
use Rattle.round_kernel.proofs.copies.list_stirring.Given as goal

abbrev pub invariant-loop-change : goal.invariant-loop-change
invariant-loop-change l = l.stirred ≡ l.initial.stirred ++ filter (λ c. stirs l.touched l.watched c.node.0) (take l.change-index l.changes)
