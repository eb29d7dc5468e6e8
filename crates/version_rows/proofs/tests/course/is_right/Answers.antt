-- The views of the order and the others are views of the matrix, and they are few.
use Rattle.std.proofs.Common.{◌∙◌, ◌-◌, ℕ, List, drop, length, sym, subst, arith}
use Rattle.std.specs.Prelude.{All}
use Rattle.std.proofs.lemmas.List.Elements.{All-drop, All-take}
use Rattle.graph_model.specs.declared.number.ViewNo.{ViewNo}
use Rattle.view_matrix.specs.Matrices.{IsView}
use Rattle.version_rows.proofs.Counts.{few-views}
use Rattle.version_rows.proofs.tests.course.is_right.Goals as goal

pub overflow_cast-all : goal.overflow_cast-all
overflow_cast-all g c =
    omega (arith, few-views c.args.scene.graph.now c.in_ok-live.live c.args.rules.now c.in_ok-matrix.matrix c.as_slice-all.result.now c.requires.rules c.in_ok-matrix.ensures (c.as_slice-all.ensures ∙ c.in_ok-views.ensures.views))

pub overflow_add-all : goal.overflow_add-all
overflow_add-all g c =
    omega (arith, few-views c.args.scene.graph.now c.in_ok-live.live c.args.rules.now c.in_ok-matrix.matrix c.as_slice-all.result.now c.requires.rules c.in_ok-matrix.ensures (c.as_slice-all.ensures ∙ c.in_ok-views.ensures.views))

pub goes_through-requires-clause-more : goal.goes_through-requires-clause-more
goes_through-requires-clause-more g c =
    let m = c.in_ok-matrix.matrix in
    let all = c.as_slice-all.result.now in
    let count : ℕ = c.draw-count.result in
    All-take (IsView m) (length all - count) (drop count all) (All-drop (IsView m) count all
    (subst (λ (vs : List ViewNo). All (IsView m) vs) (sym c.as_slice-all.ensures) c.in_ok-views.ensures.within))

pub goes_through-requires-clause-views : goal.goes_through-requires-clause-views
goes_through-requires-clause-views g c =
    let m = c.in_ok-matrix.matrix in
    let all = c.as_slice-all.result.now in
    let count : ℕ = c.draw-count.result in
    subst (λ (vs : List ViewNo). All (IsView m) vs) (sym c.in_ok-engine.ensures.order) (All-take (IsView m) count all
    (subst (λ (vs : List ViewNo). All (IsView m) vs) (sym c.as_slice-all.ensures) c.in_ok-views.ensures.within))
