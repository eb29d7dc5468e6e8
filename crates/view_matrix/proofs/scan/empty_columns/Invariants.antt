use Rattle.std.proofs.Common.{◌≡◌, [], All, vec_len}
use Rattle.view_matrix.proofs.scan.empty_columns.Given as goal

abbrev pub invariant-loop-place : goal.invariant-loop-place
invariant-loop-place l = record {
  count : vec_len l.columns ≡ l._place;
  empty : All (λ words. words.items ≡ []) l.columns.items;
}
