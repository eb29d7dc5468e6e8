-- The tree order is over all views.
use Rattle.std.proofs.Common.{◌≡◌, ◌∙◌, ◌-◌, ℕ, List, length, map, All, sym, ap, subst, arith}
use Rattle.std.specs.List.{range_with_len}
use Rattle.std.proofs.lemmas.List.FromFn.{length-map-range_with_len}
use Rattle.std.proofs.lemmas.List.Sorted.{length_permutation, All-permutation}
use Rattle.graph_model.specs.declared.number.ViewNo.{ViewNo}
use Rattle.graph_model.specs.GraphData.{AreDistinct}
use Rattle.view_matrix.specs.Matrices.{distance_of, IsView}
use Rattle.view_order.specs.Greedy.{numbers}
use Rattle.view_order.specs.Places.{view}
use Rattle.tree_order.specs.Trees.{tree_walk, views_of}
use Rattle.surge_session.proofs.Distinct.{distinct_permuted}
use Rattle.surge_session.proofs.Ordering.{numbers_of}
use Rattle.surge_session.proofs.run.views_in_tree.Goals as goal

pub returns-clause-order : goal.returns-clause-order
returns-clause-order c =
    let m = c.args.matrix.now in
    let declared : c.as_slice.result.now ≡ map view (range_with_len 0 (length m.columns - 0)) = c.as_slice.ensures ∙ c.in_ok-declared.ensures.views in
    let ns : numbers c.as_slice.result.now ≡ range_with_len 0 (length m.columns) =
    ap numbers declared ∙ numbers_of (range_with_len 0 (length m.columns - 0)) ∙ ap (λ (k : ℕ). range_with_len 0 k) (let e : length m.columns - 0 ≡ length m.columns = omega arith in e) in
    c.in_ok-found.ensures.order ∙ ap (λ (xs : List ℕ). views_of (tree_walk (distance_of m) xs)) ns

pub returns-clause-views : goal.returns-clause-views
returns-clause-views c =
    All-permutation (IsView c.args.matrix.now) c.as_slice.result.now c.in_ok-found.found.order c.in_ok-found.ensures.each
    (subst (λ (vs : List ViewNo). All (IsView c.args.matrix.now) vs) (sym c.as_slice.ensures) c.in_ok-declared.ensures.within)

pub returns-clause-distinct : goal.returns-clause-distinct
returns-clause-distinct c =
    distinct_permuted c.as_slice.result.now c.in_ok-found.found.order c.in_ok-found.ensures.each (subst (λ (vs : List ViewNo). AreDistinct vs) (sym c.as_slice.ensures) c.in_ok-declared.ensures.distinct)

pub returns-clause-count : goal.returns-clause-count
returns-clause-count c =
    let m = c.args.matrix.now in
    let declared : c.as_slice.result.now ≡ map view (range_with_len 0 (length m.columns - 0)) = c.as_slice.ensures ∙ c.in_ok-declared.ensures.views in
    omega (arith, length_permutation c.as_slice.result.now c.in_ok-found.found.order c.in_ok-found.ensures.each, ap (λ (vs : List ViewNo). length vs) declared, length-map-range_with_len view 0 (length m.columns - 0))
