use Rattle.std.specs.Prelude.{sum_by}
use Rattle.std.proofs.Common.{◌≡◌, ◌%◌, ◌^◌, take}
use Rattle.vertex_parts.proofs.degrees.weight_of.Given as goal

abbrev pub invariant-loop-weight : goal.invariant-loop-weight
invariant-loop-weight l = l.sum ≡ sum_by (λ a. a.1) (take l.weight-index l.words) % 2 ^ 64
