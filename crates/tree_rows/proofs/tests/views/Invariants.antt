use Rattle.std.proofs.Common.{◌≡◌, length}
use Rattle.tree_rows.proofs.tests.views.Given as goal

abbrev pub invariant-loop-first : goal.invariant-loop-first
invariant-loop-first l = length l.views.items ≡ l.first-index
