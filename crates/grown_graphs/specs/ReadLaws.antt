-- What predicates and arcs read of the edges that were there.
use Rattle.std.specs.Prelude.{ℕ, zero, suc, pos, ◌≡◌, ◌≤◌, ◌<◌, ◌+◌, ◌-◌, Bool, true, false, ◌&&◌, List, [], ◌∷◌, ◌++◌, length, map, filter, nat_lt, cond, if◌then◌else◌}
use Rattle.std.specs.List.{list_all, range_with_len}
use Rattle.std.proofs.Common.{◌∙◌, ap, refl, arith}
use Rattle.std.proofs.lemmas.Bool.Decides.{nat_tests}
use Rattle.std.proofs.lemmas.List.{append-nil}
use Rattle.std.proofs.lemmas.List.Elements.{filter-append}
use Rattle.graph_model.specs.declared.number.EdgeNo.{EdgeNo}
use Rattle.graph_model.specs.GraphData.{Cell, GraphData, edge_cell_of, ends_of, id_of}
use Rattle.edge_predicates.specs.declared.pred.Place.{Place}
use Rattle.edge_predicates.specs.declared.pred.Place.TheVariants as place
use Rattle.edge_predicates.specs.declared.pred.Pred.{Pred}
use Rattle.edge_predicates.specs.declared.pred.Pred.TheOpen.{Pred-F}
use Rattle.edge_predicates.specs.declared.pred.Pred.TheFolds.{fold-Pred}
use Rattle.edge_predicates.specs.declared.pred.ViewRule.{ViewRule}
use Rattle.edge_predicates.specs.Truth.{cells_compare, edge_place, is_absent, node_place, read_at, rule_truth, truth, truth_of}
use Rattle.edge_predicates.specs.ViewEdges.{edge, edges_of}
use Rattle.vertex_lang.specs.declared.program.Along.{Along}
use Rattle.vertex_lang.specs.declared.program.Along.TheVariants as along
use Rattle.vertex_lang.specs.Arcs.{arcs_between, arcs_of_edge}
use Rattle.grown_graphs.specs.Growing.{AreEdgesOf, GrowsTo}

module _ (g h : GraphData) (more : GrowsTo g h) where
  -- ---- truths

  module _ (e : ℕ) (old : e < length g.ends) where
    node-place : (n column : ℕ) → node_place h n column ≡ node_place g n column
    node-place n column = rw (more.node_columns, more.node_cells) refl

    edge-place : (column : ℕ) → edge_place h e column ≡ edge_place g e column
    edge-place column = rw more.edge_columns (cases (nat_lt column (length g.edge_columns)) refl) where
      cases : (t : Bool) → nat_lt column (length g.edge_columns) ≡ t → (if t then edge_cell_of h e column else Cell.absent) ≡ (if t then edge_cell_of g e column else Cell.absent)
      cases true p = more.cells e column old (grind (arith, nat_tests))
      cases false p = refl

    same-id : (n : ℕ) → Cell.int (pos (id_of h n)) ≡ Cell.int (pos (id_of g n))
    same-id n = rw more.ids refl

    same-place : (p : Place) → read_at h e p ≡ read_at g e p
    same-place (place.Number z) = refl
    same-place (place.Str text) = refl
    same-place (place.Bool b) = refl
    same-place place.SrcId = ap (λ p. Cell.int (pos (id_of h p.0.0))) (more.ends e old) ∙ same-id (ends_of g e).0.0
    same-place place.DstId = ap (λ p. Cell.int (pos (id_of h p.1.0))) (more.ends e old) ∙ same-id (ends_of g e).1.0
    same-place (place.Src column) = ap (λ p. node_place h p.0.0 column) (more.ends e old) ∙ node-place (ends_of g e).0.0 column
    same-place (place.Dst column) = ap (λ p. node_place h p.1.0 column) (more.ends e old) ∙ node-place (ends_of g e).1.0 column
    same-place (place.Edge column) = edge-place column

    one-level : (x : Pred-F Bool) → truth_of h e x ≡ truth_of g e x
    one-level (Pred-F.Or members) = refl
    one-level (Pred-F.And members) = refl
    one-level (Pred-F.Not member) = refl
    one-level (Pred-F.Constant b) = refl
    one-level (Pred-F.Compare a sign b) = ap (λ x. cells_compare sign x (read_at h e b)) (same-place a) ∙ ap (cells_compare sign (read_at g e a)) (same-place b)
    one-level (Pred-F.Missing a) = ap is_absent (same-place a)

    all-levels : truth_of h e ≡ truth_of g e
    all-levels = λ i x. one-level x i

    pub same-truth : (p : Pred) → truth h e p ≡ truth g e p
    unfolding truth
    same-truth p = ap (λ f. fold-Pred Bool f p) all-levels

    all-same : (rules : List Pred) → list_all (truth h e) rules ≡ list_all (truth g e) rules
    all-same [] = refl
    all-same (p ∷ rules) = ap (λ b. b && list_all (truth h e) rules) (same-truth p) ∙ ap (λ b. truth g e p && b) (all-same rules)

    pub same-rule : (rule : ViewRule) → rule_truth h e rule ≡ rule_truth g e rule
    same-rule rule = all-same rule.rules

  -- ---- arcs

  arcs-of : (way : Along) (e : EdgeNo) → e.0 < length g.ends → arcs_of_edge way h e ≡ arcs_of_edge way g e
  arcs-of along.Out e old = rw (more.ends e.0 old) refl
  arcs-of along.In e old = rw (more.ends e.0 old) refl
  arcs-of along.Both e old = rw (more.ends e.0 old) refl

  pub same-arcs : (way : Along) (edges : List EdgeNo) → AreEdgesOf g edges → arcs_between way h edges ≡ arcs_between way g edges
  same-arcs way [] old = refl
  same-arcs way (e ∷ edges) old =
      ap (λ l. l ++ arcs_between way h edges) (arcs-of way e (old 0 e (omega arith))) ∙ ap (λ l. arcs_of_edge way g e ++ l) (same-arcs way edges (λ k d lt. old (suc k) d (omega arith)))

-- ---- which edges a test picks

-- edges from one on
edges_from : ℕ → ℕ → List EdgeNo
edges_from from count = map edge (range_with_len from count)

both : (e : EdgeNo) (t : Bool) {xs ys : List EdgeNo} → xs ≡ ys → cond t (e ∷ xs) xs ≡ cond t (e ∷ ys) ys
both e true same = ap (λ l. e ∷ l) same
both e false same = same

same-tests : (p q : ℕ → Bool) (from count : ℕ) → ((e : ℕ) → from ≤ e → e < from + count → p e ≡ q e) → filter (λ (e : EdgeNo). p e.0) (edges_from from count) ≡ filter (λ (e : EdgeNo). q e.0) (edges_from from count)
unfolding edges_from
same-tests p q from zero same = refl
same-tests p q from (suc count) same =
    rw (same from (omega arith) (omega arith)) (both (edge from) (q from) (same-tests p q (from + 1) count (λ e le lt. same e (omega arith) (omega arith))))

none-picked : (p : ℕ → Bool) (from count : ℕ) → ((e : ℕ) → from ≤ e → p e ≡ false) → filter (λ (e : EdgeNo). p e.0) (edges_from from count) ≡ []
unfolding edges_from
none-picked p from zero none = refl
none-picked p from (suc count) none = rw (none from (omega arith)) (none-picked p (from + 1) count (λ e le. none e (omega arith)))

split-edges : (from n m : ℕ) → edges_from from (n + m) ≡ edges_from from n ++ edges_from (from + n) m
unfolding edges_from
split-edges from zero m =
    let none : zero + m ≡ m = omega arith in
    let here : from + zero ≡ from = omega arith in
    rw (none, here) refl
split-edges from (suc n) m =
    let sum : suc n + m ≡ suc (n + m) = omega arith in
    let next : from + suc n ≡ from + 1 + n = omega arith in
    rw (sum, next) (ap (λ l. edge from ∷ l) (split-edges (from + 1) n m))

pub same-picked : (g h : GraphData) (p q : ℕ → Bool) → length g.ends ≤ length h.ends → ((e : ℕ) → e < length g.ends → p e ≡ q e) → ((e : ℕ) → length g.ends ≤ e → p e ≡ false)
    → filter (λ (e : EdgeNo). p e.0) (edges_of h) ≡ filter (λ (e : EdgeNo). q e.0) (edges_of g)
unfolding edges_from
same-picked g h p q count same none =
    let n = length g.ends in
    let rest = length h.ends - n in
    let sum : length h.ends ≡ n + rest = omega arith in
    let from : 0 + n ≡ n = omega arith in
    let split : edges_of h ≡ edges_from 0 n ++ edges_from n rest = ap (edges_from 0) sum ∙ split-edges 0 n rest ∙ ap (λ k. edges_from 0 n ++ edges_from k rest) from in
    ap (filter (λ (e : EdgeNo). p e.0)) split
    ∙ filter-append (λ (e : EdgeNo). p e.0) (edges_from 0 n) (edges_from n rest)
    ∙ ap (λ l. filter (λ (e : EdgeNo). p e.0) (edges_from 0 n) ++ l) (none-picked p n rest none)
    ∙ append-nil (filter (λ (e : EdgeNo). p e.0) (edges_from 0 n))
    ∙ same-tests p q 0 n (λ e le lt. same e (omega arith))

-- a rule at the edges that something picks
pub same-view : (g h : GraphData) → GrowsTo g h → (picks : ℕ → Bool) (rule : ViewRule) → ((e : ℕ) → length g.ends ≤ e → picks e ≡ false)
    → filter (λ (e : EdgeNo). picks e.0 && rule_truth h e.0 rule) (edges_of h) ≡ filter (λ (e : EdgeNo). picks e.0 && rule_truth g e.0 rule) (edges_of g)
same-view g h more picks rule none =
    same-picked g h (λ e. picks e && rule_truth h e rule) (λ e. picks e && rule_truth g e rule) more.count (λ e lt. ap (λ b. picks e && b) (same-rule g h more e lt rule))
    (λ e le. ap (λ b. b && rule_truth h e rule) (none e le))
