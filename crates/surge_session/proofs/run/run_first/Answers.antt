-- The views are run in their order.
use Rattle.std.proofs.Common.{◌≡◌, ◌∙◌, ◌≤◌, List, length, sym, ap, subst, arith, All}
use Rattle.std.proofs.lemmas.Result.{IfOk-weaker}
use Rattle.graph_model.specs.declared.number.ViewNo.{ViewNo}
use Rattle.graph_model.specs.GraphData.{AreDistinct}
use Rattle.view_matrix.specs.Matrices.{IsView}
use Rattle.view_order.specs.Greedy.{numbers}
use Rattle.surge_session.specs.declared.kept.RunEngine.{RunEngine}
use Rattle.surge_session.proofs.run.run_first.Goals as goal

pub run_views-requires-clause-few : goal.run_views-requires-clause-few
run_views-requires-clause-few g c =
    omega (arith, ap (λ (vs : List ViewNo). length vs) c.as_slice.ensures, c.in_ok-order.ensures.count, c.views-all.ensures.count, c.views-all.ensures.limit)

pub returns-clause-order : goal.returns-clause-order
returns-clause-order g c =
    IfOk-weaker c.run_views.result _ _ (λ (e : RunEngine) same. ap numbers (same ∙ c.as_slice.ensures) ∙ c.in_ok-order.ensures.order) c.run_views.ensures.order

pub returns-clause-count : goal.returns-clause-count
returns-clause-count g c =
    IfOk-weaker c.run_views.result _ _ (λ (e : RunEngine) same. ap (λ (vs : List ViewNo). length vs) (same ∙ c.as_slice.ensures) ∙ c.in_ok-order.ensures.count) c.run_views.ensures.order
