use Rattle.std.specs.Option.{IfSome}
use Rattle.view_matrix.specs.Matrices.{IsView}
use Rattle.version_rows.proofs.tests.slow.works_behind.Given as goal

abbrev pub invariant-loop-view : goal.invariant-loop-view
invariant-loop-view g l = IfSome l.last (IsView l.matrix)
