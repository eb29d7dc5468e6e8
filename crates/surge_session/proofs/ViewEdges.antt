-- The edges of views, in a graph of live edges and in a matrix.
use Rattle.std.proofs.Common.{◌≡◌, ◌∙◌, ◌+◌, ◌<◌, ◌≤◌, ℕ, zero, suc, Bool, ◌&&◌, List, [], ◌∷◌, length, drop, map, filter, get_or, Some, slice_get, refl, sym, ap, ap₂, subst, arith, All}
use Rattle.std.specs.Prelude.{false}
use Rattle.std.specs.List.{range_with_len}
use Rattle.std.proofs.lemmas.List.{length-map}
use Rattle.std.proofs.lemmas.List.Elements.{All-filter}
use Rattle.std.proofs.lemmas.List.Sums.{length-filter, count_by-le-length}
use Rattle.std.proofs.lemmas.List.FromFn.{length-map-range_with_len, get_or-map-range_with_len}
use Rattle.std.proofs.lemmas.Option.{slice_get_within}
use Rattle.graph_model.specs.declared.number.EdgeNo.{EdgeNo}
use Rattle.graph_model.specs.GraphData.{GraphData}
use Rattle.edge_predicates.specs.declared.pred.ViewRule.{ViewRule}
use Rattle.edge_predicates.specs.Truth.{rule_truth}
use Rattle.edge_predicates.specs.ViewEdges.{edge, edges_of}
use Rattle.gvdl_check.specs.declared.plan.ViewPlan.{ViewPlan}
use Rattle.view_matrix.specs.Matrices.{MatrixData, live_of, bit_of, rule_bit_of, column_of, edges_in, rule_column, rule_columns}
use Rattle.view_matrix.specs.ViewLaws.{same_kept}
use Rattle.surge_session.specs.Live.{LiveGraph, is_live, live_edges}
use Rattle.surge_session.specs.State.{ShowsLive, Shows, rules_of}

-- ---- in a graph

each_edge : (g : GraphData) → All (λ (e : EdgeNo). e.0 < length g.ends) (edges_of g)
each_edge g k d lt =
    let within : k < length g.ends = omega (arith, lt, length-map-range_with_len edge 0 (length g.ends)) in
    subst (λ (e : EdgeNo). e.0 < length g.ends) (sym (get_or-map-range_with_len edge 0 (length g.ends) k k d within (omega arith))) within

-- whether an edge stands in a view
abbrev stands : LiveGraph → ViewRule → EdgeNo → Bool
stands w rule e = is_live w.live e.0 && rule_truth w.graph e.0 rule

pub live_edges_within : (w : LiveGraph) (rule : ViewRule) → All (λ (e : EdgeNo). e.0 < length w.graph.ends) (live_edges w rule)
live_edges_within w rule = All-filter (stands w rule) (λ (e : EdgeNo). e.0 < length w.graph.ends) (edges_of w.graph) (each_edge w.graph)

pub live_edges_few : (w : LiveGraph) (rule : ViewRule) → length (live_edges w rule) ≤ length w.graph.ends
live_edges_few w rule =
    omega (arith, length-filter (stands w rule) (edges_of w.graph), count_by-le-length (stands w rule) (edges_of w.graph), length-map-range_with_len edge 0 (length w.graph.ends))

-- ---- in a matrix

pub got_behind : {X : Type 0} (xs : List X) (n i : ℕ) → slice_get (drop n xs) i ≡ slice_get xs (n + i)
got_behind {X} xs zero i = ap (slice_get xs) (let e : i ≡ zero + i = omega arith in e)
got_behind [] (suc n) i = refl
got_behind {X} (x ∷ xs) (suc n) i = got_behind xs n i ∙ ap (slice_get (x ∷ xs)) (let e : suc (n + i) ≡ suc n + i = omega arith in e)

got_mapped : {X Y : Type 0} (f : X → Y) (xs : List X) (i : ℕ) (x : X) → slice_get xs i ≡ Some x → slice_get (map f xs) i ≡ Some (f x)
got_mapped f [] i x e = absurd cc
got_mapped f (y ∷ ys) zero x e = ap Some (ap f (let h : y ≡ x = cc in h))
got_mapped f (y ∷ ys) (suc i) x e = got_mapped f ys i x e

pub as_many : (w : LiveGraph) (views : List ViewPlan) (m : MatrixData) → ShowsLive w (rules_of views) m → length m.columns ≡ length views
as_many w views m shows = ap (λ (cs : List _). length cs) shows.columns ∙ length-map (rules_of views) (rule_column w.graph) ∙ length-map views (λ (view : ViewPlan). view.rule)

-- the column of a view is that of its rule
column_at : (g : GraphData) (rules : List ViewRule) (v : ℕ) (rule : ViewRule) → slice_get rules v ≡ Some rule → get_or (rule_columns g rules) v [] ≡ rule_column g rule
column_at g [] v rule at = absurd cc
column_at g (x ∷ xs) zero rule at = ap (rule_column g) (let e : x ≡ rule = cc in e)
column_at g (x ∷ xs) (suc v) rule at = column_at g xs v rule at

-- the edges that stand in a view of the matrix are the live edges of the view
edges_live : (w : LiveGraph) (rules : List ViewRule) (m : MatrixData) (v : ℕ) (rule : ViewRule) → length w.live ≡ length w.graph.ends → ShowsLive w rules m → slice_get rules v ≡ Some rule
    → edges_in m v ≡ live_edges w rule
edges_live w rules m v rule count shows at =
    let column : column_of m v ≡ rule_column w.graph rule = ap (λ (cs : List (List Bool)). get_or cs v []) shows.columns ∙ column_at w.graph rules v rule at in
    let size : length m.live ≡ length w.graph.ends = ap (λ (l : List Bool). length l) shows.live ∙ count in
    ap (λ (n : ℕ). filter (λ e. bit_of m e.0 v) (map edge (range_with_len 0 n))) size
    ∙ same_kept (λ e. bit_of m e.0 v) (stands w rule) 0 (length w.graph.ends)
    (λ e lt.
    let here : live_of m e ≡ is_live w.live e = ap (λ (l : List Bool). get_or l e false) shows.live in
    let truth : rule_bit_of m e v ≡ rule_truth w.graph e rule = ap (λ (c : List Bool). get_or c e false) column ∙ get_or-map-range_with_len (λ (k : ℕ). rule_truth w.graph k rule) 0 (length w.graph.ends) e e false (omega (arith, lt)) (omega arith) in
    ap₂ (λ (a b : Bool). a && b) here truth)

-- a matrix that shows some views shows those of them from a place on
pub shown_from : (w : LiveGraph) (views : List ViewPlan) (m : MatrixData) (first : ℕ) → length w.live ≡ length w.graph.ends → ShowsLive w (rules_of views) m → Shows w m first (drop first views)
shown_from w views m first count shows i view at =
    let here : slice_get views (first + i) ≡ Some view = sym (got_behind views first i) ∙ at in (
      omega (arith, slice_get_within views (first + i) view here, as_many w views m shows),
      edges_live w (rules_of views) m (first + i) view.rule count shows (got_mapped (λ (v : ViewPlan). v.rule) views (first + i) view here),
    )
