-- The edges of a matrix, by its columns.
use Rattle.std.proofs.Common.{◌≡◌, ◌∙◌, ◌≤◌, ℕ, zero, suc, Bool, true, false, cond, ◌&&◌, List, [], ◌∷◌, length, map, filter, count_by, All, Some, None, Option, refl, sym, ap, ap₂, arith}
use mathlib.Core.Path.{fun_ext}
use Rattle.std.specs.List.{range_with_len}
use Rattle.std.proofs.lemmas.Simd.{map-map}
use Rattle.std.proofs.lemmas.List.{length-map}
use Rattle.std.proofs.lemmas.List.Sums.{length-filter, count_by-le-length}
use Rattle.std.proofs.lemmas.List.FromFn.{length-map-range_with_len}
use Rattle.graph_model.specs.declared.number.EdgeNo.{EdgeNo}
use Rattle.graph_model.specs.GraphData.{GraphData}
use Rattle.edge_predicates.specs.declared.pred.ViewRule.{ViewRule}
use Rattle.edge_predicates.specs.Truth.{rule_truth}
use Rattle.edge_predicates.specs.ViewEdges.{edge}
use Rattle.view_matrix.specs.Columns.{at}
use Rattle.view_matrix.specs.Matrices.{MatrixData, all_edges, apart, bit_of, column_bit, column_of, differ, differences_of, distance_of, edges_in, rule_columns, size_of}
use Rattle.view_matrix.proofs.Passes.{made_same}

-- a test of edges by their numbers
kept_edges : (p : ℕ → Bool) (xs : List ℕ) → filter (λ (e : EdgeNo). p e.0) (map edge xs) ≡ map edge (filter p xs)
kept_edges p [] = refl
kept_edges p (x ∷ xs) = ap (λ (es : List EdgeNo). cond (p x) (edge x ∷ es) es) (kept_edges p xs) ∙ one (p x) where
  one : (b : Bool) → cond b (edge x ∷ map edge (filter p xs)) (map edge (filter p xs)) ≡ map edge (cond b (x ∷ filter p xs) (filter p xs))
  one true = refl
  one false = refl

counted_edges : (p : ℕ → Bool) (n : ℕ) → count_by p (range_with_len 0 n) ≡ length (filter (λ (e : EdgeNo). p e.0) (map edge (range_with_len 0 n)))
counted_edges p n =
    sym (length-filter p (range_with_len 0 n)) ∙ sym (length-map (filter p (range_with_len 0 n)) edge) ∙ ap (λ (es : List EdgeNo). length es) (sym (kept_edges p (range_with_len 0 n)))

pub few_kept : (m : MatrixData) (p : EdgeNo → Bool) → length m.live ≤ 4_000_000 → length (filter p (all_edges m)) ≤ 4_000_000
few_kept m p few = omega (arith, few, length-filter p (all_edges m), count_by-le-length p (all_edges m), length-map-range_with_len edge 0 (length m.live))

-- an edge with its bit
abbrev pub signed_edge : ℕ → Bool → EdgeNo × Bool
signed_edge e bit = (edge e, bit)

abbrev pub in_column : List Bool → ℕ → EdgeNo × Bool
in_column column e = (edge e, at column e)

abbrev pub in_view : MatrixData → ℕ → EdgeNo → EdgeNo × Bool
in_view m v e = (e, bit_of m e.0 v)

module _ (m : MatrixData) (v : ℕ) (column : List Bool) (is : column ≡ column_of m v) where
  bit_here : (e : ℕ) → (at m.live e && at column e) ≡ bit_of m e v
  bit_here e = ap (λ (bits : List Bool). at m.live e && at bits e) is

  here : ◌≡◌ {A = ℕ → Bool} (λ (e : ℕ). at m.live e && at column e) (λ (e : ℕ). bit_of m e v)
  here = fun_ext bit_here

  pub size_is : count_by (λ (e : ℕ). at m.live e && at column e) (range_with_len 0 (length m.live)) ≡ size_of m v
  size_is = ap (λ (p : ℕ → Bool). count_by p (range_with_len 0 (length m.live))) here ∙ counted_edges (λ (e : ℕ). bit_of m e v) (length m.live)

  pub edges_are : map edge (filter (λ (e : ℕ). at m.live e && at column e) (range_with_len 0 (length m.live))) ≡ edges_in m v
  edges_are = ap (λ (p : ℕ → Bool). map edge (filter p (range_with_len 0 (length m.live)))) here ∙ sym (kept_edges (λ (e : ℕ). bit_of m e v) (range_with_len 0 (length m.live)))

  pub flags_are : map (λ (e : ℕ). at m.live e && at column e) (range_with_len 0 (length m.live)) ≡ map (λ (e : ℕ). bit_of m e v) (range_with_len 0 (length m.live))
  flags_are = ap (λ (p : ℕ → Bool). map p (range_with_len 0 (length m.live))) here

  -- a list of edges, each with its bit in the view
  signed_edges : (p : ℕ → Bool) → ((e : ℕ) → p e ≡ true → at column e ≡ bit_of m e v)
      → map (in_column column) (filter p (range_with_len 0 (length m.live))) ≡ map (in_view m v) (filter (λ (e : EdgeNo). p e.0) (all_edges m))
  signed_edges p same =
      made_same (in_column column) (λ (e : ℕ). in_view m v (edge e)) p 0 (length m.live) (λ e lt holds. ap (signed_edge e) (same e holds))
      ∙ sym (map-map (in_view m v) edge (filter p (range_with_len 0 (length m.live))))
      ∙ ap (map (in_view m v)) (sym (kept_edges p (range_with_len 0 (length m.live))))

  live_sign : (live bit b : Bool) → (live && b) ≡ true → bit ≡ (live && bit)
  live_sign true bit b h = refl
  live_sign false bit b h = absurd cc

  pub differences_none : map (in_column column) (filter (λ (e : ℕ). at m.live e && at column e) (range_with_len 0 (length m.live))) ≡ differences_of m None v
  differences_none =
      signed_edges (λ (e : ℕ). at m.live e && at column e) (λ e holds. live_sign (at m.live e) (at column e) (at column e) holds ∙ bit_here e)
      ∙ ap (λ (p : ℕ → Bool). map (in_view m v) (filter (λ (e : EdgeNo). p e.0) (all_edges m))) here

  module _ (u : ℕ) (first : List Bool) (was : first ≡ column_of m u) where
    both_live : (live a b : Bool) → (live && differ a b) ≡ differ (live && a) (live && b)
    both_live true a b = refl
    both_live false a b = refl

    apart_here : (e : ℕ) → (at m.live e && differ (at first e) (at column e)) ≡ differ (bit_of m e u) (bit_of m e v)
    apart_here e = both_live (at m.live e) (at first e) (at column e) ∙ ap₂ differ (ap (λ (bits : List Bool). at m.live e && at bits e) was) (bit_here e)

    apart_both : ◌≡◌ {A = ℕ → Bool} (λ (e : ℕ). at m.live e && differ (at first e) (at column e)) (λ (e : ℕ). differ (bit_of m e u) (bit_of m e v))
    apart_both = fun_ext apart_here

    pub distance_is : count_by (λ (e : ℕ). at m.live e && differ (at first e) (at column e)) (range_with_len 0 (length m.live)) ≡ distance_of m (Some u) v
    distance_is = ap (λ (p : ℕ → Bool). count_by p (range_with_len 0 (length m.live))) apart_both ∙ counted_edges (λ (e : ℕ). differ (bit_of m e u) (bit_of m e v)) (length m.live)

    pub differences_are : map (in_column column) (filter (λ (e : ℕ). at m.live e && differ (at first e) (at column e)) (range_with_len 0 (length m.live))) ≡ differences_of m (Some u) v
    differences_are =
        signed_edges (λ (e : ℕ). at m.live e && differ (at first e) (at column e)) (λ e holds. live_sign (at m.live e) (at column e) (differ (at first e) (at column e)) holds ∙ bit_here e)
        ∙ ap (λ (p : ℕ → Bool). map (in_view m v) (filter (λ (e : EdgeNo). p e.0) (all_edges m))) apart_both

pub few_differences : (m : MatrixData) (before : Option ℕ) (v : ℕ) (ds : List (EdgeNo × Bool)) → length m.live ≤ 4_000_000 → ds ≡ differences_of m before v → length ds ≤ 4_000_000
few_differences m before v ds few is =
    omega (arith, ap (λ (xs : List (EdgeNo × Bool)). length xs) is, length-map (apart m before v) (in_view m v), few_kept m (λ (e : EdgeNo). differ (column_bit m before e.0) (bit_of m e.0 v)) few)

-- ---- the columns of rules

pub column_lengths : (g : GraphData) (rules : List ViewRule) (n : ℕ) → length g.ends ≡ n → All (λ (column : List Bool). length column ≡ n) (rule_columns g rules)
column_lengths g [] n e k d lt = absurd (omega arith)
column_lengths g (rule ∷ rules) n e zero d lt = length-map-range_with_len (λ (x : ℕ). rule_truth g x rule) 0 (length g.ends) ∙ e
column_lengths g (rule ∷ rules) n e (suc k) d lt = column_lengths g rules n e k d (omega arith)
