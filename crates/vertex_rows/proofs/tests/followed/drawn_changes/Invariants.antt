use Rattle.std.proofs.Common.{◌≡◌, ◌<◌, not, length}
use Rattle.std.specs.Prelude.{All}
use Rattle.view_matrix.specs.Matrices.{live_of}
use Rattle.vertex_rows.proofs.tests.followed.drawn_changes.Given as goal

abbrev pub invariant-loop-edge : goal.invariant-loop-edge
invariant-loop-edge l = record {
  within : All (λ c. c.0.0 < length l.matrix.live) l.changes.items;
  turns : All (λ c. c.1 ≡ not (live_of l.matrix c.0.0)) l.changes.items;
}
