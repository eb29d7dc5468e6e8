use Rattle.std.proofs.Common.{◌≡◌, ◌<◌, ◌++◌, length, map, take, drop, All}
use Rattle.view_matrix.specs.Matrices.{with_changes}
use Rattle.surge_session.proofs.edit.edit_all.Given as goal

abbrev pub invariant-loop-matrix : goal.invariant-loop-matrix
invariant-loop-matrix l = record {
  edited : l.made ≡ map (λ m. with_changes m l.changes) (take l.matrix-index l.initial.made) ++ drop l.matrix-index l.initial.made;
  within : All (λ m. All (λ change. change.0.0 < length m.live) l.changes) l.made;
}
