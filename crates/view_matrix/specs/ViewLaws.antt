-- Laws of the edges of a view, in a matrix and in the graph.
use Rattle.std.specs.Prelude.{◌≡◌, ℕ, ◌+◌, ◌<◌, zero, suc, Bool, true, false, ◌&&◌, List, [], ◌∷◌, length, map, filter, cond, get_or, All, slice_get, Some, refl}
use Rattle.std.specs.List.{range_with_len}
use Rattle.std.proofs.Common.{ap, ap₂, ◌∙◌, arith}
use Rattle.std.proofs.lemmas.List.FromFn.{get_or-map-range_with_len}
use Rattle.graph_model.specs.declared.number.EdgeNo.{EdgeNo}
use Rattle.graph_model.specs.GraphData.{GraphData}
use Rattle.edge_predicates.specs.declared.pred.ViewRule.{ViewRule}
use Rattle.edge_predicates.specs.Truth.{rule_truth}
use Rattle.edge_predicates.specs.ViewEdges.{edge, view_edges}
use Rattle.view_matrix.specs.Matrices.{MatrixData, live_of, bit_of, rule_bit_of, column_of, edges_in, rule_column, rule_columns}

-- tests that agree on numbers keep the same edges of those with these numbers
pub same_kept : (p q : EdgeNo → Bool) (a n : ℕ) → ((e : ℕ) → e < a + n → p (edge e) ≡ q (edge e)) → filter p (map edge (range_with_len a n)) ≡ filter q (map edge (range_with_len a n))
same_kept p q a zero same = refl
same_kept p q a (suc n) same =
    let rest : filter p (map edge (range_with_len (a + 1) n)) ≡ filter q (map edge (range_with_len (a + 1) n)) = same_kept p q (a + 1) n (λ e lt. same e (omega arith)) in
    ap₂ (λ (b : Bool) (es : List EdgeNo). cond b (edge a ∷ es) es) (same a (omega arith)) rest

-- the column of a view is that of its rule
column_at : (g : GraphData) (rules : List ViewRule) (v : ℕ) (rule : ViewRule) → slice_get rules v ≡ Some rule → get_or (rule_columns g rules) v [] ≡ rule_column g rule
column_at g [] v rule at = absurd cc
column_at g (x ∷ xs) zero rule at = ap (rule_column g) (let e : x ≡ rule = cc in e)
column_at g (x ∷ xs) (suc v) rule at = column_at g xs v rule at

pub same_edges : (g : GraphData) (rules : List ViewRule) (m : MatrixData) (v : ℕ) (rule : ViewRule) → length m.live ≡ length g.ends → All (λ b. b ≡ true) m.live → m.columns ≡ rule_columns g rules → slice_get rules v ≡ Some rule → edges_in m v ≡ view_edges g rule
same_edges g rules m v rule count live columns at =
    let column : column_of m v ≡ rule_column g rule = ap (λ (cs : List (List Bool)). get_or cs v []) columns ∙ column_at g rules v rule at in
    ap (λ (n : ℕ). filter (λ e. bit_of m e.0 v) (map edge (range_with_len 0 n))) count
    ∙ same_kept (λ e. bit_of m e.0 v) (λ e. rule_truth g e.0 rule) 0 (length g.ends)
    (λ e lt.
    let is_live : live_of m e ≡ true = live e false (omega (arith, lt, count)) in
    let truth : rule_bit_of m e v ≡ rule_truth g e rule = ap (λ (c : List Bool). get_or c e false) column ∙ get_or-map-range_with_len (λ (k : ℕ). rule_truth g k rule) 0 (length g.ends) e e false (omega (arith, lt)) (omega arith) in
    ap₂ (λ (a b : Bool). a && b) is_live truth)
