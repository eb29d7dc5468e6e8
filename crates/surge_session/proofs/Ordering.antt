-- The greedy order by the distances of a matrix, and its lines.
use Rattle.std.proofs.Common.{◌≡◌, ◌∙◌, ◌+◌, ◌-◌, ◌<◌, ◌≤◌, ℕ, zero, suc, List, [], ◌∷◌, ◌++◌, length, take, map, get_or, filter, flat_map, Bool, true, false, cond, ◌&&◌, Option, Some, None, slice_get, refl, sym, ap, ap₂, arith, append-nil, codes}
use mathlib.Core.Path.{fun_ext}
use Rattle.std.specs.Prelude.{sum_by}
use Rattle.std.specs.List.{last_or}
use Rattle.std.specs.Fmt.{decimal}
use Rattle.std.proofs.lemmas.List.{take_more, map-append, get_or_past}
use Rattle.std.proofs.lemmas.List.Sums.{sum_by-append}
use Rattle.std.proofs.lemmas.Grind.{flat_map-append}
use Rattle.graph_model.specs.declared.number.EdgeNo.{EdgeNo}
use Rattle.graph_model.specs.declared.number.ViewNo.{ViewNo}
use Rattle.gvdl_check.specs.declared.plan.ViewPlan.{ViewPlan}
use Rattle.view_matrix.specs.Matrices.{MatrixData, bit_of, live_of, all_edges, column_edges, edges_in, distance_of, in_exactly_one, place_of}
use Rattle.view_matrix.specs.Laws.{distance_of-lists}
use Rattle.view_order.specs.Greedy.{greedy, numbers}
use Rattle.view_order.specs.Places.{view}
use Rattle.result_tables.specs.TableText.{line_end}
use Rattle.surge_session.specs.Output.{list_of, edges_at, difference, with_distances, order_line}
use Rattle.surge_session.specs.State.{Shows}
use Rattle.surge_session.specs.Live.{LiveGraph, live_edges}

-- ---- the edges of a view by its place

none_kept : {X : Type 0} (p : X → Bool) (xs : List X) → ((x : X) → p x ≡ false) → filter p xs ≡ []
none_kept p [] none = refl
none_kept {X} p (x ∷ xs) none = ap (λ (b : Bool). cond b (x ∷ filter p xs) (filter p xs)) (none x) ∙ none_kept p xs none

and_false : (b : Bool) → (b && false) ≡ false
and_false true = refl
and_false false = refl

past : {X : Type 0} (xs : List X) (i : ℕ) → slice_get xs i ≡ None → length xs ≤ i
past [] i e = omega arith
past (x ∷ xs) zero e = absurd cc
past (x ∷ xs) (suc i) e = omega (arith, past xs i e)

module _ (w : LiveGraph) (m : MatrixData) (views : List ViewPlan) (shows : Shows w m 0 views) (all : length m.columns ≡ length views) where
  no_bit : (v : ℕ) → length m.columns ≤ v → (e : EdgeNo) → bit_of m e.0 v ≡ false
  no_bit v le e = ap (λ (column : List Bool). live_of m e.0 && get_or column e.0 false) (get_or_past m.columns v [] le) ∙ and_false (live_of m e.0)

  edges_of_view : (v : ℕ) (view : Option ViewPlan) → slice_get views v ≡ view → edges_in m v ≡ list_of (λ (x : ViewPlan). live_edges w x.rule) view
  edges_of_view v None at = none_kept (λ (e : EdgeNo). bit_of m e.0 v) (all_edges m) (no_bit v (omega (arith, all, past views v at)))
  edges_of_view v (Some view) at = ap (edges_in m) (let e : v ≡ 0 + v = omega arith in e) ∙ (shows v view at).1

  pub edges_here : (v : ℕ) → edges_in m v ≡ edges_at w views (Some v)
  edges_here v = edges_of_view v (slice_get views v) refl

  column_here : (before : Option ℕ) → column_edges m before ≡ edges_at w views before
  column_here None = none_kept (λ (e : EdgeNo). false) (all_edges m) (λ e. refl)
  column_here (Some v) = edges_here v

  pub same_distance : (before : Option ℕ) (v : ℕ) → distance_of m before v ≡ difference w views before v
  same_distance before v = distance_of-lists m before v ∙ ap₂ in_exactly_one (column_here before) (edges_here v)

  pub same_distances : distance_of m ≡ difference w views
  same_distances = fun_ext (λ before. fun_ext (λ v. same_distance before v))

  pub same_greedy : (ns : List ℕ) → greedy (distance_of m) None ns ≡ greedy (difference w views) None ns
  same_greedy ns = ap (λ (distance : Option ℕ → ℕ → ℕ). greedy distance None ns) same_distances

-- ---- the views in declared order

pub numbers_of : (ns : List ℕ) → numbers (map view ns) ≡ ns
numbers_of [] = refl
numbers_of (n ∷ ns) = ap (λ (ms : List ℕ). n ∷ ms) (numbers_of ns)

-- ---- one more line

pub distances-append : (distance : Option ℕ → ℕ → ℕ) (before : Option ℕ) (xs : List ℕ) (v : ℕ) → with_distances distance before (xs ++ v ∷ []) ≡ with_distances distance before xs ++ (v, distance (last_or before xs) v) ∷ []
distances-append distance before [] v = refl
distances-append distance before (x ∷ xs) v = ap (λ (lines : List (ℕ × ℕ)). (x, distance before x) ∷ lines) (distances-append distance (Some x) xs v)

pub last-append : (before : Option ℕ) (xs : List ℕ) (v : ℕ) → last_or before (xs ++ v ∷ []) ≡ Some v
last-append before [] v = refl
last-append before (x ∷ xs) v = last-append (Some x) xs v

pub one_view_more : (order : List ViewNo) (i : ℕ) (d : ViewNo) → i < length order → numbers (take (i + 1) order) ≡ numbers (take i order) ++ (get_or order i d).0 ∷ []
one_view_more order i d lt = ap numbers (take_more order i d lt) ∙ map-append (λ (v : ViewNo). v.0) (take i order) (get_or order i d ∷ [])

pub line_more : (views : List ViewPlan) (lines : List (ℕ × ℕ)) (v x distance : ℕ) (old new name : List ℕ) (item : ViewPlan) → new ≡ old ++ (name ++ (codes " " ++ (decimal x ++ line_end))) → old ≡ flat_map (order_line views) lines
    → name ≡ item.name → slice_get views v ≡ Some item → x ≡ distance → new ≡ flat_map (order_line views) (lines ++ (v, distance) ∷ [])
line_more views lines v x distance old new name item more so_far named at is =
    let line : name ++ (codes " " ++ (decimal x ++ line_end)) ≡ order_line views (v, distance) =
    ap₂ (λ (n : List ℕ) (k : ℕ). n ++ (codes " " ++ (decimal k ++ line_end))) named is
    ∙ ap (λ (o : Option ViewPlan). list_of (λ (y : ViewPlan). y.name) o ++ (codes " " ++ (decimal distance ++ line_end))) (sym at) in
    more ∙ ap₂ (λ (a b : List ℕ). a ++ b) so_far line ∙ ap (λ (t : List ℕ). flat_map (order_line views) lines ++ t) (sym (append-nil (order_line views (v, distance))))
    ∙ sym (flat_map-append (order_line views) lines ((v, distance) ∷ []))

pub total_more : (lines : List (ℕ × ℕ)) (v x distance total : ℕ) → total ≡ sum_by (λ (line : ℕ × ℕ). line.1) lines → x ≡ distance → total + x ≡ sum_by (λ (line : ℕ × ℕ). line.1) (lines ++ (v, distance) ∷ [])
total_more lines v x distance total so_far is = omega (arith, so_far, is, sum_by-append (λ (line : ℕ × ℕ). line.1) lines ((v, distance) ∷ []))

-- ---- the last view

last_from : (v : ViewNo) (vs : List ViewNo) → place_of (slice_get (v ∷ vs) (length vs)) ≡ last_or (Some v.0) (numbers vs)
last_from v [] = refl
last_from v (w ∷ ws) = last_from w ws

pub last_place : (vs : List ViewNo) → place_of (slice_get vs (length vs - 1)) ≡ last_or None (numbers vs)
last_place [] = refl
last_place (v ∷ vs) = ap (λ (k : ℕ). place_of (slice_get (v ∷ vs) k)) (let e : length (v ∷ vs) - 1 ≡ length vs = omega arith in e) ∙ last_from v vs
