use Rattle.std.proofs.Common.{◌≡◌, length}
use Rattle.vertex_rows.proofs.tests.followed.drawn_live.Given as goal

abbrev pub invariant-loop-edge : goal.invariant-loop-edge
invariant-loop-edge l = length l.live ≡ l._edge
