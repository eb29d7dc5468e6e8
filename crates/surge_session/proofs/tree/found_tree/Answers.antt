-- The distances of the matrix are those of the views.
use Rattle.std.proofs.Common.{◌≡◌, ◌∙◌, ◌-◌, ◌<◌, ℕ, List, None, Option, length, map, All, ap, ap₂, sym, subst, arith}
use Rattle.std.specs.List.{range_with_len}
use Rattle.std.proofs.lemmas.List.Sorted.{All-permutation}
use Rattle.graph_model.specs.declared.number.ViewNo.{ViewNo}
use Rattle.view_matrix.specs.Matrices.{distance_of, IsView}
use Rattle.view_order.specs.Greedy.{numbers}
use Rattle.view_order.specs.Places.{view}
use Rattle.tree_order.specs.Trees.{parents_of, tree, tree_walk, views_of, walked, weight}
use Rattle.surge_session.specs.State.{shown_graph}
use Rattle.surge_session.proofs.Keeping.{numbered}
use Rattle.surge_session.proofs.Ordering.{same_distances, numbers_of}
use Rattle.surge_session.proofs.TreePlaces.{points_within}
use Rattle.surge_session.proofs.tree.found_tree.Goals as goal

pub returns-clause-order : goal.returns-clause-order
returns-clause-order c =
    let m = c.args.matrix.now in
    let views = c.args.views.now in
    let same = same_distances (shown_graph c.args.graph.now m) m views c.requires.shown c.requires.all in
    let declared : c.as_slice.result.now ≡ map view (range_with_len 0 (length m.columns - 0)) = c.as_slice.ensures ∙ c.in_ok-declared.ensures.views in
    let ns : numbers c.as_slice.result.now ≡ range_with_len 0 (length views) =
    ap numbers declared ∙ numbers_of (range_with_len 0 (length m.columns - 0)) ∙ ap (λ (k : ℕ). range_with_len 0 k) (let e : length m.columns - 0 ≡ length views = omega (arith, c.requires.all) in e) in
    c.in_ok-found.ensures.order ∙ ap₂ (λ (d : Option ℕ → ℕ → ℕ) (xs : List ℕ). views_of (tree_walk d xs)) same ns

pub returns-clause-parents : goal.returns-clause-parents
returns-clause-parents c =
    let m = c.args.matrix.now in
    let views = c.args.views.now in
    let same = same_distances (shown_graph c.args.graph.now m) m views c.requires.shown c.requires.all in
    let declared : c.as_slice.result.now ≡ map view (range_with_len 0 (length m.columns - 0)) = c.as_slice.ensures ∙ c.in_ok-declared.ensures.views in
    let ns : numbers c.as_slice.result.now ≡ range_with_len 0 (length views) =
    ap numbers declared ∙ numbers_of (range_with_len 0 (length m.columns - 0)) ∙ ap (λ (k : ℕ). range_with_len 0 k) (let e : length m.columns - 0 ≡ length views = omega (arith, c.requires.all) in e) in
    c.in_ok-found.ensures.parents ∙ ap₂ (λ (d : Option ℕ → ℕ → ℕ) (xs : List ℕ). parents_of (tree_walk d xs)) same ns

pub returns-clause-tree : goal.returns-clause-tree
returns-clause-tree c =
    let m = c.args.matrix.now in
    let views = c.args.views.now in
    let same = same_distances (shown_graph c.args.graph.now m) m views c.requires.shown c.requires.all in
    let declared : c.as_slice.result.now ≡ map view (range_with_len 0 (length m.columns - 0)) = c.as_slice.ensures ∙ c.in_ok-declared.ensures.views in
    let ns : numbers c.as_slice.result.now ≡ range_with_len 0 (length views) =
    ap numbers declared ∙ numbers_of (range_with_len 0 (length m.columns - 0)) ∙ ap (λ (k : ℕ). range_with_len 0 k) (let e : length m.columns - 0 ≡ length views = omega (arith, c.requires.all) in e) in
    c.in_ok-found.ensures.tree ∙ ap₂ (λ (d : Option ℕ → ℕ → ℕ) (xs : List ℕ). weight d (tree d xs)) same ns

pub returns-clause-length : goal.returns-clause-length
returns-clause-length c =
    let m = c.args.matrix.now in
    let views = c.args.views.now in
    let same = same_distances (shown_graph c.args.graph.now m) m views c.requires.shown c.requires.all in
    let declared : c.as_slice.result.now ≡ map view (range_with_len 0 (length m.columns - 0)) = c.as_slice.ensures ∙ c.in_ok-declared.ensures.views in
    let ns : numbers c.as_slice.result.now ≡ range_with_len 0 (length views) =
    ap numbers declared ∙ numbers_of (range_with_len 0 (length m.columns - 0)) ∙ ap (λ (k : ℕ). range_with_len 0 k) (let e : length m.columns - 0 ≡ length views = omega (arith, c.requires.all) in e) in
    c.in_ok-found.ensures.length ∙ ap₂ (λ (d : Option ℕ → ℕ → ℕ) (xs : List ℕ). walked d None xs) same (c.in_ok-found.ensures.order ∙ ap₂ (λ (d : Option ℕ → ℕ → ℕ) (xs : List ℕ). views_of (tree_walk d xs)) same ns)

pub returns-clause-views : goal.returns-clause-views
returns-clause-views c =
    All-permutation (IsView c.args.matrix.now) c.as_slice.result.now c.in_ok-found.found.order c.in_ok-found.ensures.each
    (subst (λ (vs : List ViewNo). All (IsView c.args.matrix.now) vs) (sym c.as_slice.ensures) c.in_ok-declared.ensures.within)

pub returns-clause-points : goal.returns-clause-points
returns-clause-points c =
    let m = c.args.matrix.now in
    let all : All (IsView m) c.as_slice.result.now = subst (λ (vs : List ViewNo). All (IsView m) vs) (sym c.as_slice.ensures) c.in_ok-declared.ensures.within in
    points_within m (distance_of m) (numbers c.as_slice.result.now) c.in_ok-found.found.parents (numbered (λ (v : ℕ). v < length m.columns) c.as_slice.result.now all) c.in_ok-found.ensures.parents
