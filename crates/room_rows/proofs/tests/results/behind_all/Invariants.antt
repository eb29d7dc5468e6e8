-- The answers stay those over three nodes.
use Rattle.std.proofs.Common.{◌≡◌}
use Rattle.room_rows.proofs.tests.results.behind_all.Given as goal

abbrev pub invariant-loop-view : goal.invariant-loop-view
invariant-loop-view l = l.results.nodes ≡ 3
