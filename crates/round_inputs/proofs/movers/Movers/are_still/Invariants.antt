use Rattle.std.proofs.Common.{◌≡◌, take, false}
use Rattle.std.specs.Prelude.{All}
use Rattle.round_inputs.specs.Movers.{moves}
use Rattle.round_inputs.proofs.movers.Movers.are_still.Given as goal

abbrev pub invariant-loop-arc : goal.invariant-loop-arc
invariant-loop-arc l = All (λ a. moves l.self a.tail.0 ≡ false) (take l.arc-index l.row)
