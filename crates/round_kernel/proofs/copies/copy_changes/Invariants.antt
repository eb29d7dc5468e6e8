use Rattle.std.proofs.Common.{◌≡◌, ◌++◌, take, filter, get_or, false}
use Rattle.std.specs.Prelude.{◌&&◌, not}
use Rattle.round_kernel.specs.Frames.{stirs}
use Rattle.round_kernel.proofs.copies.copy_changes.Given as goal

abbrev pub invariant-loop-change : goal.invariant-loop-change
invariant-loop-change l = record {
  made : l.made ≡ l.initial.made ++ filter (λ c. not (get_or l.touched c.node.0 false)) (take l.change-index l.changes);
  stirred : l.stirred ≡ l.initial.stirred ++ filter (λ c. l.few && stirs l.touched l.watched c.node.0) (take l.change-index l.changes);
}
