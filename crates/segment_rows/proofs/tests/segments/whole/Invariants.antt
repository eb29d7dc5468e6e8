use Rattle.std.proofs.Common.{◌≡◌, [], None}
use Rattle.std.specs.Prelude.{All}
use Rattle.view_matrix.specs.Matrices.{IsView}
use Rattle.segment_rows.proofs.tests.segments.whole.Given as goal

abbrev pub invariant-loop-view : goal.invariant-loop-view
invariant-loop-view l = record {
  views : All (IsView l.matrix) l.segment.views;
  works : l.segment.works ≡ [];
  history : l.segment.history ≡ None;
  flags : l.segment.flags ≡ None;
}
