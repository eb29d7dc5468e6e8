use Rattle.std.proofs.Common.{◌≡◌, map, take, All}
use Rattle.view_matrix.specs.Scans.{IsScan}
use Rattle.view_matrix.proofs.rules.rule_columns.Given as goal

abbrev pub invariant-loop-rule : goal.invariant-loop-rule
invariant-loop-rule l = record {
  are : All (IsScan l.graph) l.scans.items;
  rules : map (λ scan. scan.rule.now) l.scans.items ≡ map (λ rule. rule.now) (take l.rule-index l.rules);
}
