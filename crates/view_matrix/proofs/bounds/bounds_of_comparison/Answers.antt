-- The number stands on the left.
use Rattle.std.proofs.Common.{◌≡◌, subst, w64, rules, IfSome}
use Rattle.std.specs.Prelude.{ℤ}
use Rattle.std.specs.Ordering.{int_cmp}
use Rattle.std.proofs.Math.Facts.{to_z-of_z}
use mir.Val.{SFits}
use Rattle.edge_predicates.specs.Truth.{agrees}
use Rattle.view_matrix.specs.declared.bounds.Bounds.{Bounds}
use Rattle.view_matrix.specs.Bounds.{admits}
use Rattle.view_matrix.proofs.BoundLaws.{left_bounds}
use Rattle.view_matrix.proofs.bounds.bounds_of_comparison.Goals as goal

pub returns-in-Number-Edge : goal.returns-in-Number-Edge
returns-in-Number-Edge c =
    let number : ℤ = c.in-Number-Edge.number in
    let fits : SFits w64 number = search rules in
    let means : IfSome c.bounds_of-in-Number-Edge.result (λ (b : Bounds). (z : ℤ) → admits b z ≡ agrees c.mirrored.result (int_cmp z number)) =
    subst (λ (n : ℤ). IfSome c.bounds_of-in-Number-Edge.result (λ (b : Bounds). (z : ℤ) → admits b z ≡ agrees c.mirrored.result (int_cmp z n))) (to_z-of_z fits) c.bounds_of-in-Number-Edge.ensures.means in
    rw (c.in-Number-Edge.is-0, c.in-Number-Edge.is-1)
    (left_bounds c.bounds_of-in-Number-Edge.result c.in-Number-Edge.column number c.args.sign c.mirrored.result c.bounds_of-in-Number-Edge.ensures.column means c.mirrored.ensures)
