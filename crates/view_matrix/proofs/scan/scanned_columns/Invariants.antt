use Rattle.std.proofs.Common.{◌≡◌, map, take, length}
use Rattle.view_matrix.specs.Matrices.{rule_column}
use Rattle.view_matrix.proofs.scan.scanned_columns.Given as goal

abbrev pub invariant-loop-words : goal.invariant-loop-words
invariant-loop-words l = l.columns.items ≡ map (λ scan. rule_column l.graph scan.rule.now) (take (length l.yielded) l.scans)
