-- The edges of a view, one more edge of the graph at a time.
use Rattle.std.proofs.Common.{◌≡◌, ◌∙◌, ◌+◌, ◌≤◌, ◌<◌, ℕ, zero, suc, Bool, true, false, List, [], ◌∷◌, ◌++◌, length, take, refl, sym, ap, arith, filter, All, append-nil}
use Rattle.std.proofs.lemmas.List.{take_more, take_all}
use Rattle.std.proofs.lemmas.List.Elements.{filter-append}
use Rattle.std.proofs.lemmas.List.FromFn.{get_or-map-range_with_len, length-map-range_with_len}
use Rattle.graph_model.specs.declared.number.EdgeNo.{EdgeNo}
use Rattle.graph_model.specs.GraphData.{GraphData}
use Rattle.edge_predicates.specs.declared.pred.ViewRule.{ViewRule}
use Rattle.edge_predicates.specs.Truth.{rule_truth}
use Rattle.edge_predicates.specs.ViewEdges.{edge, edges_of, view_edges}

-- the edges of the view among the first i of the graph
abbrev pub kept : GraphData → ViewRule → ℕ → List EdgeNo
kept g rule i = filter (λ e. rule_truth g e.0 rule) (take i (edges_of g))

length-edges_of : (g : GraphData) → length (edges_of g) ≡ length g.ends
length-edges_of g = length-map-range_with_len edge 0 (length g.ends)

kept_next : (g : GraphData) (rule : ViewRule) (i : ℕ) → i < length g.ends → kept g rule (i + 1) ≡ kept g rule i ++ filter (λ e. rule_truth g e.0 rule) (edge i ∷ [])
kept_next g rule i lt =
    ap (filter (λ e. rule_truth g e.0 rule)) (take_more (edges_of g) i (edge 0) (omega (arith, length-edges_of g)) ∙ ap (λ e. take i (edges_of g) ++ e ∷ []) (get_or-map-range_with_len edge 0 (length g.ends) i i (edge 0) lt (omega arith)))
    ∙ filter-append (λ e. rule_truth g e.0 rule) (take i (edges_of g)) (edge i ∷ [])

one : (b : Bool) (e : EdgeNo) (g : GraphData) (rule : ViewRule) → rule_truth g e.0 rule ≡ b → filter (λ e. rule_truth g e.0 rule) (e ∷ []) ≡ filter (λ e. b) (e ∷ [])
one b e g rule h = rw h refl

pub kept_more : (g : GraphData) (rule : ViewRule) (i : ℕ) (items new : List EdgeNo) → i < length g.ends → true ≡ rule_truth g i rule → items ≡ kept g rule i → new ≡ items ++ edge i ∷ [] → new ≡ kept g rule (i + 1)
kept_more g rule i items new lt holds so_far grown =
    grown ∙ ap (λ (x : List EdgeNo). x ++ edge i ∷ []) so_far ∙ ap (λ (x : List EdgeNo). kept g rule i ++ x) (sym (one true (edge i) g rule (sym holds))) ∙ sym (kept_next g rule i lt)

pub left_out : (g : GraphData) (rule : ViewRule) (i : ℕ) (items : List EdgeNo) → i < length g.ends → false ≡ rule_truth g i rule → items ≡ kept g rule i → items ≡ kept g rule (i + 1)
left_out g rule i items lt fails so_far =
    so_far ∙ sym (append-nil (kept g rule i)) ∙ ap (λ (x : List EdgeNo). kept g rule i ++ x) (sym (one false (edge i) g rule (sym fails))) ∙ sym (kept_next g rule i lt)

pub kept_all : (g : GraphData) (rule : ViewRule) (i : ℕ) → length g.ends ≤ i → kept g rule i ≡ view_edges g rule
kept_all g rule i le = ap (filter (λ e. rule_truth g e.0 rule)) (take_all i (edges_of g) (omega (arith, length-edges_of g)))

pub one_within : (n i : ℕ) → i < n → All (λ (e : EdgeNo). e.0 < n) (edge i ∷ [])
one_within n i lt zero d h = lt
one_within n i lt (suc k) d h = absurd (omega arith)
