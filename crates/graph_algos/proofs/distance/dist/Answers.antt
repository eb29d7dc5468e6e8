use Rattle.std.proofs.Common.{◌≡◌, ◌∙◌, ap, arith, ℕ, w64}
use Rattle.std.proofs.lemmas.Int.{to_z-of_z}
use Rattle.vertex_lang.specs.declared.program.Expr.TheVariants as expr
use Rattle.graph_algos.specs.Shared.{from_source, value_and}
use Rattle.graph_algos.specs.Dist.{dist}
use Rattle.graph_algos.specs.DistLaws.{dist_checked}
use Rattle.graph_algos.proofs.SameParts.{same_parts}
use Rattle.graph_algos.proofs.distance.dist.Goals as goal

pub returns-clause-checked : goal.returns-clause-checked
returns-clause-checked c =
    let source = c.args.source in
    let column : ℕ = c.args.column in
    let first = c.in_ok-from_source.ensures ∙ ap from_source (to_z-of_z w64 source c.ranges.source) in
    let message : c.in_ok-value_and.field-0 ≡ value_and (expr.EdgeProp column) = c.in_ok-value_and.ensures ∙ ap (λ (n : ℕ). value_and (expr.EdgeProp n)) (omega (arith, c.requires)) in
    λ graph h. same_parts (dist source column) graph _ _ _ _ _ first message c.in_ok-least_so_far.ensures (dist_checked source column graph h)
