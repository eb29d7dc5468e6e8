use Rattle.std.proofs.Common.{◌≡◌, ◌++◌}
use Rattle.weighted.specs.WordLaws.{mapped}
use Rattle.diff_join.proofs.kept.push_outputs.Given as goal

abbrev pub invariant-loop-product : goal.invariant-loop-product
invariant-loop-product g l = l.outputs.items ++ mapped (λ r. r.1) l.product-iterator ≡ l.fn.outputs.items ++ mapped (λ r. r.1) l.fn.products
