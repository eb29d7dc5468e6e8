-- The views from a number on, as they are or in greedy order.
use Rattle.std.proofs.Common.{◌≡◌, ◌∙◌, ◌-◌, ◌≤◌, ℕ, List, length, map, All, sym, ap, subst, arith}
use Rattle.std.specs.List.{range_with_len}
use Rattle.std.proofs.lemmas.Result.{IfOk-weaker}
use Rattle.std.proofs.lemmas.List.FromFn.{length-map-range_with_len}
use Rattle.std.proofs.lemmas.List.Sorted.{length_permutation, All-permutation}
use Rattle.std.specs.List.Sorted.{IsPermutation}
use Rattle.graph_model.specs.declared.number.ViewNo.{ViewNo}
use Rattle.graph_model.specs.GraphData.{AreDistinct}
use Rattle.gvdl_check.specs.declared.plan.OrderRule.{OrderRule}
use Rattle.view_matrix.specs.Matrices.{distance_of, place_of, IsView}
use Rattle.view_order.specs.Greedy.{greedy, numbers}
use Rattle.view_order.specs.Places.{view}
use Rattle.surge_session.specs.Output.{in_order}
use Rattle.surge_session.proofs.Distinct.{distinct_permuted, behind_all}
use Rattle.surge_session.proofs.Ordering.{numbers_of}
use Rattle.surge_session.proofs.run.views_in_order.Goals as goal

pub returns-in-Declared-clause-order : goal.returns-in-Declared-clause-order
returns-in-Declared-clause-order c =
    let m = c.args.matrix.now in
    let range = range_with_len c.args.first (length m.columns - c.args.first) in
    ap numbers c.in_ok-declared.ensures.views ∙ numbers_of range ∙ sym (ap (λ (r : OrderRule). in_order r (distance_of m) (place_of c.args.before) range) c.in-Declared.is)

pub returns-in-Declared-clause-behind : goal.returns-in-Declared-clause-behind
returns-in-Declared-clause-behind c =
    let first = c.args.first in
    let left = length c.args.matrix.now.columns - first in
    subst (λ (vs : List ViewNo). All (λ (v : ViewNo). first ≤ v.0) vs) (sym c.in_ok-declared.ensures.views) (behind_all first first left (omega arith))

pub returns-in-Declared-clause-count : goal.returns-in-Declared-clause-count
returns-in-Declared-clause-count c =
    let left = length c.args.matrix.now.columns - c.args.first in
    ap (λ (vs : List ViewNo). length vs) c.in_ok-declared.ensures.views ∙ length-map-range_with_len view c.args.first left

pub returns-in-Greedy-clause-order : goal.returns-in-Greedy-clause-order
returns-in-Greedy-clause-order c =
    let m = c.args.matrix.now in
    let range = range_with_len c.args.first (length m.columns - c.args.first) in
    let before = place_of c.args.before in
    let ns : numbers c.as_slice.result.now ≡ range = ap numbers (c.as_slice.ensures ∙ c.in_ok-declared.ensures.views) ∙ numbers_of range in
    IfOk-weaker c.greedy.result (λ order. numbers order ≡ greedy (distance_of m) before (numbers c.as_slice.result.now)) (λ order. numbers order ≡ in_order c.args.rule (distance_of m) before range)
    (λ order e. e ∙ ap (λ (xs : List ℕ). greedy (distance_of m) before xs) ns ∙ sym (ap (λ (r : OrderRule). in_order r (distance_of m) before range) c.in-Greedy.is)) c.greedy.ensures.order

pub returns-in-Greedy-clause-views : goal.returns-in-Greedy-clause-views
returns-in-Greedy-clause-views c =
    let P : ViewNo → Type 0 = IsView c.args.matrix.now in
    IfOk-weaker c.greedy.result (IsPermutation c.as_slice.result.now) (All P)
    (λ order p. All-permutation P c.as_slice.result.now order p (subst (λ (vs : List ViewNo). All P vs) (sym c.as_slice.ensures) c.in_ok-declared.ensures.within)) c.greedy.ensures.each

pub returns-in-Greedy-clause-distinct : goal.returns-in-Greedy-clause-distinct
returns-in-Greedy-clause-distinct c =
    IfOk-weaker c.greedy.result (IsPermutation c.as_slice.result.now) (λ order. AreDistinct order)
    (λ order p. distinct_permuted c.as_slice.result.now order p (subst (λ (vs : List ViewNo). AreDistinct vs) (sym c.as_slice.ensures) c.in_ok-declared.ensures.distinct)) c.greedy.ensures.each

pub returns-in-Greedy-clause-behind : goal.returns-in-Greedy-clause-behind
returns-in-Greedy-clause-behind c =
    let first = c.args.first in
    let left = length c.args.matrix.now.columns - first in
    let P : ViewNo → Type 0 = λ v. first ≤ v.0 in
    IfOk-weaker c.greedy.result (IsPermutation c.as_slice.result.now) (All P)
    (λ order p. All-permutation P c.as_slice.result.now order p (subst (λ (vs : List ViewNo). All P vs) (sym (c.as_slice.ensures ∙ c.in_ok-declared.ensures.views)) (behind_all first first left (omega arith)))) c.greedy.ensures.each

pub returns-in-Greedy-clause-count : goal.returns-in-Greedy-clause-count
returns-in-Greedy-clause-count c =
    let left = length c.args.matrix.now.columns - c.args.first in
    let count : length c.as_slice.result.now ≡ left = ap (λ (vs : List ViewNo). length vs) (c.as_slice.ensures ∙ c.in_ok-declared.ensures.views) ∙ length-map-range_with_len view c.args.first left in
    IfOk-weaker c.greedy.result (IsPermutation c.as_slice.result.now) (λ order. length order ≡ left)
    (λ order p. length_permutation c.as_slice.result.now order p ∙ count) c.greedy.ensures.each

pub returns-in-Tree-clause-order : goal.returns-in-Tree-clause-order
returns-in-Tree-clause-order c =
    let m = c.args.matrix.now in
    let range = range_with_len c.args.first (length m.columns - c.args.first) in
    let before = place_of c.args.before in
    let ns : numbers c.as_slice-in-Tree.result.now ≡ range = ap numbers (c.as_slice-in-Tree.ensures ∙ c.in_ok-declared.ensures.views) ∙ numbers_of range in
    IfOk-weaker c.greedy-in-Tree.result (λ order. numbers order ≡ greedy (distance_of m) before (numbers c.as_slice-in-Tree.result.now)) (λ order. numbers order ≡ in_order c.args.rule (distance_of m) before range)
    (λ order e. e ∙ ap (λ (xs : List ℕ). greedy (distance_of m) before xs) ns ∙ sym (ap (λ (r : OrderRule). in_order r (distance_of m) before range) c.in-Tree.is)) c.greedy-in-Tree.ensures.order

pub returns-in-Tree-clause-views : goal.returns-in-Tree-clause-views
returns-in-Tree-clause-views c =
    let P : ViewNo → Type 0 = IsView c.args.matrix.now in
    IfOk-weaker c.greedy-in-Tree.result (IsPermutation c.as_slice-in-Tree.result.now) (All P)
    (λ order p. All-permutation P c.as_slice-in-Tree.result.now order p (subst (λ (vs : List ViewNo). All P vs) (sym c.as_slice-in-Tree.ensures) c.in_ok-declared.ensures.within)) c.greedy-in-Tree.ensures.each

pub returns-in-Tree-clause-distinct : goal.returns-in-Tree-clause-distinct
returns-in-Tree-clause-distinct c =
    IfOk-weaker c.greedy-in-Tree.result (IsPermutation c.as_slice-in-Tree.result.now) (λ order. AreDistinct order)
    (λ order p. distinct_permuted c.as_slice-in-Tree.result.now order p (subst (λ (vs : List ViewNo). AreDistinct vs) (sym c.as_slice-in-Tree.ensures) c.in_ok-declared.ensures.distinct)) c.greedy-in-Tree.ensures.each

pub returns-in-Tree-clause-behind : goal.returns-in-Tree-clause-behind
returns-in-Tree-clause-behind c =
    let first = c.args.first in
    let left = length c.args.matrix.now.columns - first in
    let P : ViewNo → Type 0 = λ v. first ≤ v.0 in
    IfOk-weaker c.greedy-in-Tree.result (IsPermutation c.as_slice-in-Tree.result.now) (All P)
    (λ order p. All-permutation P c.as_slice-in-Tree.result.now order p (subst (λ (vs : List ViewNo). All P vs) (sym (c.as_slice-in-Tree.ensures ∙ c.in_ok-declared.ensures.views)) (behind_all first first left (omega arith)))) c.greedy-in-Tree.ensures.each

pub returns-in-Tree-clause-count : goal.returns-in-Tree-clause-count
returns-in-Tree-clause-count c =
    let left = length c.args.matrix.now.columns - c.args.first in
    let count : length c.as_slice-in-Tree.result.now ≡ left = ap (λ (vs : List ViewNo). length vs) (c.as_slice-in-Tree.ensures ∙ c.in_ok-declared.ensures.views) ∙ length-map-range_with_len view c.args.first left in
    IfOk-weaker c.greedy-in-Tree.result (IsPermutation c.as_slice-in-Tree.result.now) (λ order. length order ≡ left)
    (λ order p. length_permutation c.as_slice-in-Tree.result.now order p ∙ count) c.greedy-in-Tree.ensures.each
