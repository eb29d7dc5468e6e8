-- The matrix has the views that the collection has.
use Rattle.std.proofs.Common.{◌≡◌, ◌∙◌, ◌≤◌, List, Some, length, slice_get, ap, sym, arith}
use Rattle.gvdl_check.specs.declared.plan.ViewPlan.{ViewPlan}
use Rattle.view_matrix.specs.Matrices.{MatrixData}
use Rattle.surge_session.proofs.Places.{counted, made_none}
use Rattle.surge_session.proofs.Texts.{found}
use Rattle.surge_session.proofs.state.State.views.Goals as goal

pub returns-in-Some : goal.returns-in-Some
returns-in-Some c =
    let s = c.args.self.now in
    let m = c.in-Some.matrix.now in
    let at : slice_get s.made.items c.args.place ≡ Some m = found c.as_slice.result.now s.made.items c.args.place m c.as_slice.ensures.value c.in-Some.ensures.lookup.3.0 c.in-Some.ensures.lookup.1 in
    c.views.ensures.count ∙ counted c.args.graph.now c.args.plan.now c.args.n c.args.place s.made.items m c.requires at

pub returns-in-None : goal.returns-in-None
returns-in-None c =
    let p = c.args.plan.now in
    let le : length p.collections ≤ c.args.place = omega (arith, c.requires.all, ap (λ (x : List MatrixData). length x) c.as_slice.ensures.value, c.in-None.ensures.lookup.3) in
    sym (ap (λ (x : List ViewPlan). length x) (made_none p c.args.n c.args.place le))
