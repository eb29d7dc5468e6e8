use Rattle.std.proofs.Common.{◌≡◌}
use Rattle.view_matrix.proofs.Filled.{filled}
use Rattle.view_matrix.proofs.rules.column_of.Given as goal

abbrev pub invariant-loop-place : goal.invariant-loop-place
invariant-loop-place l = l.column ≡ filled l.bits l.place
