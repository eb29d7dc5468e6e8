use Rattle.std.proofs.Common.{◌≡◌, ◌+◌, ◌&&◌, ℕ}
use Rattle.std.specs.Prelude.{nat_lt}
use Rattle.edge_predicates.specs.Truth.{rule_truth}
use Rattle.view_matrix.specs.Columns.{is_set}
use Rattle.view_matrix.proofs.scan.evaluated_word.Given as goal

abbrev pub invariant-loop-place : goal.invariant-loop-place
invariant-loop-place l = (i : ℕ) → is_set l.word i ≡ (nat_lt i l.place && rule_truth l.graph (l.first + i) l.rule)
