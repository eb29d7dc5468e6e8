use Rattle.std.proofs.Common.{◌≡◌, map, take}
use Rattle.view_matrix.proofs.rules.references.Given as goal

abbrev pub invariant-loop-rule : goal.invariant-loop-rule
invariant-loop-rule l = map (λ rule. rule.now) l.all.items ≡ take l.rule-index l.rules
