use Rattle.std.proofs.Common.{◌≡◌, [], All, vec_len}
use Rattle.view_matrix.specs.Matrices.{matrix_of}
use Rattle.surge_session.proofs.state.empty_matrices.Given as goal

abbrev pub invariant-loop-place : goal.invariant-loop-place
invariant-loop-place l = record {
  count : vec_len l.made ≡ l._place;
  empty : All (λ m. m ≡ matrix_of l.graph l.live []) l.made.items;
}
