use Rattle.std.proofs.Common.{◌≡◌, length}
use Rattle.phase_rows.proofs.tests.cases.live_in.Given as goal

abbrev pub invariant-loop-edge : goal.invariant-loop-edge
invariant-loop-edge l = length l.live ≡ l._edge
