-- A collection has at most 1,024 views.
use Rattle.std.proofs.Common.{◌≤◌, List, length, ap, arith}
use Rattle.gvdl_check.specs.declared.plan.ViewPlan.{ViewPlan}
use Rattle.gvdl_check.specs.ViewLaws.{views_few}
use Rattle.gvdl_check.proofs.statement.add_collection.Goals as goal

pub overflow_cast-count : goal.overflow_cast-count
overflow_cast-count c =
    let none = ap (λ (l : List ViewPlan). length l) c.new-views.ensures in
    let few : length c.new-views.result ≤ 1_024 = omega (arith, none) in
    let all = views_few c.args.graph.now c.as_slice.result.now c.args.items.now c.new-views.result c.add_items.new.views few c.in_ok-add_items.ensures.told in
    omega (arith, all, c.len-count.ensures)
