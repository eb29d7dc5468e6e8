use Rattle.std.proofs.Common.{◌≤◌, length}
use Rattle.aggregate_views.proofs.held.stay.Given as goal

abbrev pub invariant-loop-stay : goal.invariant-loop-stay
invariant-loop-stay g l = l.stay ≤ length l.layers

abbrev pub decreases-loop-stay : goal.decreases-loop-stay
decreases-loop-stay g l = l.stay
