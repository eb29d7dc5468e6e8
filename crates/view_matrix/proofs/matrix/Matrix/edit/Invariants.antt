use Rattle.std.proofs.Common.{◌≡◌, fold, take, length}
use Rattle.view_matrix.specs.Matrices.{with_live}
use Rattle.view_matrix.proofs.matrix.Matrix.edit.Given as goal

abbrev pub invariant-loop-edge : goal.invariant-loop-edge
invariant-loop-edge l = record {
  live : l.self-inside.live ≡ fold with_live l.initial.self-inside.live (take l.edge-index l.changes);
  many : length l.self-inside.live ≡ length l.initial.self-inside.live;
  columns : l.self-inside.columns ≡ l.initial.self-inside.columns;
}
