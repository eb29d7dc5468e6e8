-- Without a view before them the views begin in the order of the rule.
use Rattle.std.proofs.Common.{◌≡◌, ◌∙◌, ◌-◌, ℕ, List, None, length, sym, ap, arith}
use Rattle.std.specs.List.{range_with_len}
use Rattle.std.proofs.lemmas.Result.{IfOk-weaker}
use Rattle.graph_model.specs.declared.number.ViewNo.{ViewNo}
use Rattle.gvdl_check.specs.declared.plan.OrderRule.{OrderRule}
use Rattle.gvdl_check.specs.declared.plan.OrderRule.TheVariants as order
use Rattle.view_matrix.specs.Matrices.{distance_of}
use Rattle.tree_order.specs.Trees.{tree_walk, views_of}
use Rattle.surge_session.specs.Output.{begun_in, in_order}
use Rattle.surge_session.proofs.run.first_views.Goals as goal

pub returns-in-Declared-clause-order : goal.returns-in-Declared-clause-order
returns-in-Declared-clause-order c =
    let m = c.args.matrix.now in
    let D = distance_of m in
    let ns : range_with_len 0 (length m.columns - 0) ≡ range_with_len 0 (length m.columns) = ap (λ (k : ℕ). range_with_len 0 k) (let e : length m.columns - 0 ≡ length m.columns = omega arith in e) in
    let begun : in_order c.args.rule D None (range_with_len 0 (length m.columns - 0)) ≡ begun_in c.args.rule D (range_with_len 0 (length m.columns)) =
    ap (λ (r : OrderRule). in_order r D None (range_with_len 0 (length m.columns - 0))) c.in-Declared.is ∙ ap (λ (vs : List ℕ). begun_in order.Declared D vs) ns ∙ sym (ap (λ (r : OrderRule). begun_in r D (range_with_len 0 (length m.columns))) c.in-Declared.is) in
    IfOk-weaker c.views_in_order.result _ _ (λ (os : List ViewNo) e. e ∙ begun) c.views_in_order.ensures.order

pub returns-in-Declared-clause-count : goal.returns-in-Declared-clause-count
returns-in-Declared-clause-count c = IfOk-weaker c.views_in_order.result _ _ (λ (os : List ViewNo) e. omega (arith, e)) c.views_in_order.ensures.count

pub returns-in-Greedy-clause-order : goal.returns-in-Greedy-clause-order
returns-in-Greedy-clause-order c =
    let m = c.args.matrix.now in
    let D = distance_of m in
    let ns : range_with_len 0 (length m.columns - 0) ≡ range_with_len 0 (length m.columns) = ap (λ (k : ℕ). range_with_len 0 k) (let e : length m.columns - 0 ≡ length m.columns = omega arith in e) in
    let begun : in_order c.args.rule D None (range_with_len 0 (length m.columns - 0)) ≡ begun_in c.args.rule D (range_with_len 0 (length m.columns)) =
    ap (λ (r : OrderRule). in_order r D None (range_with_len 0 (length m.columns - 0))) c.in-Greedy.is ∙ ap (λ (vs : List ℕ). begun_in order.Greedy D vs) ns ∙ sym (ap (λ (r : OrderRule). begun_in r D (range_with_len 0 (length m.columns))) c.in-Greedy.is) in
    IfOk-weaker c.views_in_order-in-Greedy.result _ _ (λ (os : List ViewNo) e. e ∙ begun) c.views_in_order-in-Greedy.ensures.order

pub returns-in-Greedy-clause-count : goal.returns-in-Greedy-clause-count
returns-in-Greedy-clause-count c = IfOk-weaker c.views_in_order-in-Greedy.result _ _ (λ (os : List ViewNo) e. omega (arith, e)) c.views_in_order-in-Greedy.ensures.count

pub returns-in-Tree-clause-order : goal.returns-in-Tree-clause-order
returns-in-Tree-clause-order c =
    let m = c.args.matrix.now in
    let D = distance_of m in
    IfOk-weaker c.views_in_tree.result _ _ (λ (os : List ViewNo) e. e ∙ sym (ap (λ (r : OrderRule). begun_in r D (range_with_len 0 (length m.columns))) c.in-Tree.is)) c.views_in_tree.ensures.order
