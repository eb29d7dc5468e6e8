-- The flags of a view's edges choose its arcs among those of all edges, and tell which edges two views don't share.
use Rattle.std.proofs.Common.{◌≡◌, ◌∙◌, ◌<◌, ℕ, Bool, true, false, cond, List, [], ◌∷◌, Some, length, get_or, map, filter, sym, ap, subst, refl, arith, inl, inr}
use Rattle.std.specs.Prelude.{◌≢◌, ◌&&◌, All, Contains}
use Rattle.std.specs.List.{range_with_len}
use Rattle.std.specs.List.Sorted.{IsPermutation}
use Rattle.std.proofs.lemmas.Bool.{cases_lt}
use Rattle.std.proofs.lemmas.List.{get_or_past}
use Rattle.std.proofs.lemmas.List.Elements.{All-filter, Contains-get_or, filter_agree}
use Rattle.std.proofs.lemmas.List.FromFn.{get_or-map-range_with_len, length-map-range_with_len}
use Rattle.graph_model.specs.declared.number.EdgeNo.{EdgeNo}
use Rattle.graph_model.specs.GraphData.{GraphData}
use Rattle.vertex_lang.specs.declared.arc.Arc.{Arc}
use Rattle.vertex_lang.specs.declared.program.Along.{Along}
use Rattle.vertex_lang.specs.declared.program.Along.TheVariants as along
use Rattle.vertex_lang.specs.Arcs.{arcs_between, arcs_of_edge, forward, backward}
use Rattle.vertex_lang.specs.ExtremeLaws.{contains-here, contains-there, contains-none, contains-cases}
use Rattle.arc_rows.specs.declared.rows.Rows.{Rows}
use Rattle.arc_rows.specs.RowLists.{edge}
use Rattle.arc_rows.specs.Views.{arcs_in, in_view}
use Rattle.arc_rows.specs.FilterLaws.{filter-permuted}
use Rattle.arc_rows.specs.RowLists.{AreOfAll}
use Rattle.arc_rows.specs.Views.{TellsAll}
use Rattle.view_matrix.specs.Matrices.{MatrixData, bit_of, rule_bit_of, all_edges, edges_in, apart, differ}
use Rattle.view_versions.specs.Flags.{flags_of}
use Rattle.view_versions.proofs.Filters.{filter-parts}

-- ---- of any edge, also of one behind the last

pub flag-at : (m : MatrixData) (v e : ℕ) → get_or (flags_of m v) e false ≡ bit_of m e v
flag-at m v e = elim (cases_lt e (length m.live)) [
  | inl low ↦ get_or-map-range_with_len (λ k. bit_of m k v) 0 (length m.live) e e false low (omega arith)
  | inr past ↦
      get_or_past (flags_of m v) e false (omega (arith, past, length-map-range_with_len (λ k. bit_of m k v) 0 (length m.live)))
      ∙ sym (ap (λ b. b && rule_bit_of m e v) (get_or_past m.live e false past))
]

pub flags-count : (m : MatrixData) (v : ℕ) → length (flags_of m v) ≡ length m.live
flags-count m v = length-map-range_with_len (λ k. bit_of m k v) 0 (length m.live)

-- ---- the arcs of a view

both-by : (b : Bool) (x y : Arc) → cond b (x ∷ cond b (y ∷ []) []) (cond b (y ∷ []) []) ≡ cond b (x ∷ y ∷ []) []
both-by true x y = refl
both-by false x y = refl

-- all arcs of an edge are kept, or none
edge-kept : (way : Along) (graph : GraphData) (test : ℕ → Bool) (e : EdgeNo) → filter (λ a. test a.edge.0) (arcs_of_edge way graph e) ≡ cond (test e.0) (arcs_of_edge way graph e) []
edge-kept along.Out graph test e = refl
edge-kept along.In graph test e = refl
edge-kept along.Both graph test e = both-by (test e.0) (forward graph e) (backward graph e)

-- the arcs that the flags choose are those of the view, in another order
pub view-chosen : (way : Along) (graph : GraphData) (rows : Rows) (m : MatrixData) (v : ℕ) → AreOfAll way graph rows → length m.live ≡ length graph.ends → IsPermutation (arcs_between way graph (edges_in m v)) (arcs_in rows.by_head (flags_of m v))
view-chosen way graph rows m v along size =
    let bits : Arc → Bool = λ a. bit_of m a.edge.0 v in
    let all : List Arc = arcs_between way graph (all_edges m) in
    let is : IsPermutation all rows.by_head = subst (λ n. IsPermutation (arcs_between way graph (map edge (range_with_len 0 n))) rows.by_head) (sym size) along in
    subst (λ (xs : List Arc). IsPermutation xs (arcs_in rows.by_head (flags_of m v))) (filter-parts (arcs_of_edge way graph) (λ e. bit_of m e.0 v) bits (edge-kept way graph (λ e. bit_of m e v)) (all_edges m))
    (subst (λ (xs : List Arc). IsPermutation (filter bits all) xs) (filter_agree bits (in_view (flags_of m v)) (λ a. sym (flag-at m v a.edge.0)) rows.by_head)
    (filter-permuted bits all rows.by_head is))

-- ---- the edges that two views don't share

kept-contains : {A : Type 0} (b : Bool) (x y : A) (xs : List A) → Contains xs y → Contains (cond b (x ∷ xs) xs) y
kept-contains true x y xs h = contains-there x xs y h
kept-contains false x y xs h = h

first-contains : {A : Type 0} (b : Bool) (x : A) (xs : List A) → b ≡ true → Contains (cond b (x ∷ xs) xs) x
first-contains true x xs e = contains-here x xs
first-contains false x xs e = absurd cc

filter-contains : {A : Type 0} (p : A → Bool) (xs : List A) (y : A) → Contains xs y → p y ≡ true → Contains (filter p xs) y
filter-contains p [] y h e = absurd (contains-none y h)
filter-contains p (x ∷ xs) y h e = elim (contains-cases x xs y h) [
  | inl here ↦ subst (λ z. Contains (filter p (x ∷ xs)) z) here (first-contains (p x) x (filter p xs) (ap p here ∙ e))
  | inr there ↦ kept-contains (p x) x y (filter p xs) (filter-contains p xs y there e)
]

differ-by : (a b : Bool) → a ≢ b → differ a b ≡ true
differ-by true true ne = absurd (ne refl)
differ-by true false ne = refl
differ-by false true ne = refl
differ-by false false ne = absurd (ne refl)

in-all : (m : MatrixData) (e : ℕ) → e < length m.live → Contains (all_edges m) (edge e)
in-all m e low = subst (λ x. Contains (all_edges m) x) (get_or-map-range_with_len edge 0 (length m.live) e e (edge e) low (omega arith))
    (Contains-get_or (all_edges m) e (edge e) (omega (arith, low, length-map-range_with_len edge 0 (length m.live))))

pub apart-tells : (m : MatrixData) (u v : ℕ) → TellsAll (flags_of m u) (flags_of m v) (apart m (Some u) v)
apart-tells m u v e low ne = filter-contains (λ x. differ (bit_of m x.0 u) (bit_of m x.0 v)) (all_edges m) (edge e)
    (in-all m e (omega (arith, low, flags-count m u)))
    (differ-by (bit_of m e u) (bit_of m e v) (λ same. ne (flag-at m u e ∙ same ∙ sym (flag-at m v e))))

all-within : (m : MatrixData) → All (λ e. e.0 < length m.live) (all_edges m)
all-within m = λ k d low.
    let n = length m.live in
    let less : k < n = omega (arith, low, length-map-range_with_len edge 0 n) in
    omega (arith, less, ap (λ (e : EdgeNo). e.0) (get_or-map-range_with_len edge 0 n k k d less (omega arith)))

pub apart-within : (m : MatrixData) (u v : ℕ) → All (λ e. e.0 < length m.live) (apart m (Some u) v)
apart-within m u v = All-filter (λ e. differ (bit_of m e.0 u) (bit_of m e.0 v)) (λ e. e.0 < length m.live) (all_edges m) (all-within m)

pub edges-within : (m : MatrixData) (v : ℕ) → All (λ e. e.0 < length m.live) (edges_in m v)
edges-within m v = All-filter (λ e. bit_of m e.0 v) (λ e. e.0 < length m.live) (all_edges m) (all-within m)
