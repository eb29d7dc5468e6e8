-- The distances of the matrix are those of the views.
use Rattle.std.proofs.Common.{◌≡◌, ◌∙◌, ◌-◌, ℕ, List, None, length, map, All, ap, sym, subst, arith}
use Rattle.std.specs.List.{range_with_len}
use Rattle.std.proofs.lemmas.List.FromFn.{length-map-range_with_len}
use Rattle.std.proofs.lemmas.List.Sorted.{length_permutation, All-permutation}
use Rattle.graph_model.specs.declared.number.ViewNo.{ViewNo}
use Rattle.view_matrix.specs.Matrices.{distance_of, IsView}
use Rattle.view_order.specs.Greedy.{greedy, numbers}
use Rattle.view_order.specs.Places.{view}
use Rattle.surge_session.specs.State.{shown_graph}
use Rattle.surge_session.proofs.Ordering.{same_greedy, numbers_of}
use Rattle.surge_session.proofs.order.greedy_order.Goals as goal

pub returns-clause-order : goal.returns-clause-order
returns-clause-order c =
    let m = c.args.matrix.now in
    let views = c.args.views.now in
    let declared : c.as_slice.result.now ≡ map view (range_with_len 0 (length m.columns - 0)) = c.as_slice.ensures ∙ c.in_ok-declared.ensures.views in
    let all : length m.columns - 0 ≡ length views = omega (arith, c.requires.all) in
    let ns : numbers c.as_slice.result.now ≡ range_with_len 0 (length views) =
    ap numbers declared ∙ numbers_of (range_with_len 0 (length m.columns - 0)) ∙ ap (λ (k : ℕ). range_with_len 0 k) all in
    c.in_ok-order.ensures.order ∙ ap (λ (xs : List ℕ). greedy (distance_of m) None xs) ns ∙ same_greedy (shown_graph c.args.graph.now m) m views c.requires.shown c.requires.all (range_with_len 0 (length views))

pub returns-clause-views : goal.returns-clause-views
returns-clause-views c =
    All-permutation (IsView c.args.matrix.now) c.as_slice.result.now c.in_ok-order.order c.in_ok-order.ensures.each
    (subst (λ (vs : List ViewNo). All (IsView c.args.matrix.now) vs) (sym c.as_slice.ensures) c.in_ok-declared.ensures.within)

pub returns-clause-few : goal.returns-clause-few
returns-clause-few c =
    let m = c.args.matrix.now in
    let declared : c.as_slice.result.now ≡ map view (range_with_len 0 (length m.columns - 0)) = c.as_slice.ensures ∙ c.in_ok-declared.ensures.views in
    omega (arith, length_permutation c.as_slice.result.now c.in_ok-order.order c.in_ok-order.ensures.each, ap (λ (vs : List ViewNo). length vs) declared, length-map-range_with_len view 0 (length m.columns - 0), c.views-all.ensures.count, c.views-all.ensures.limit)
