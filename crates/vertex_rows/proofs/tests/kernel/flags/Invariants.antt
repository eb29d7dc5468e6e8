use Rattle.std.proofs.Common.{◌≡◌, length}
use Rattle.vertex_rows.proofs.tests.kernel.flags.Given as goal

abbrev pub invariant-loop-edge : goal.invariant-loop-edge
invariant-loop-edge l = length l.flags.items ≡ l.edge
