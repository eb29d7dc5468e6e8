-- The rows of an aggregate over the edges that were there.
use Rattle.std.specs.Prelude.{ℕ, ℤ, zero, suc, ◌≡◌, ◌<◌, ◌+ℤ◌, Bool, true, false, List, [], ◌∷◌, length, map, cond, get_or, Option, None, Some, All}
use Rattle.std.specs.Ordering.{is_eq}
use Rattle.std.proofs.Common.{◌∙◌, ap, ap₂, refl, arith}
use Rattle.std.proofs.lemmas.List.Elements.{All-filter}
use Rattle.graph_model.specs.declared.cell.Cells.{Cells}
use Rattle.graph_model.specs.declared.number.NodeNo.{NodeNo}
use Rattle.graph_model.specs.GraphData.{Cell, GraphData, cell_in, edge_cell_of, ends_of, no_cells, node_cell_of}
use Rattle.aggregate_views.specs.declared.cell.GroupRow.{GroupRow}
use Rattle.aggregate_views.specs.Rows.{HasSumColumn, edges_between, group_cell, number_in, pair_at, pair_order, rising, row_of, rows_of, sum_over}
use Rattle.grown_graphs.specs.Growing.{GrowsTo}

module _ (g h : GraphData) (more : GrowsTo g h) (column : ℕ) where
  abbrev Old : List ℕ → Type 0
  Old es = All (λ e. e < length g.ends) es

  first-old : (e : ℕ) (es : List ℕ) → Old (e ∷ es) → e < length g.ends
  first-old e es old = old zero e (omega arith)

  rest-old : (e : ℕ) (es : List ℕ) → Old (e ∷ es) → Old es
  rest-old e es old = λ k d lt. old (suc k) d (omega arith)

  -- ---- pairs of groups

  same-cell : (n : ℕ) → node_cell_of h n column ≡ node_cell_of g n column
  same-cell n = ap (λ (cs : List Cells). cell_in (get_or cs column no_cells) n) more.node_cells

  abbrev pair : Cell → Cell → Cell × Cell
  pair a b = (a, b)

  same-pair : (e : ℕ) → e < length g.ends → pair_at h column e ≡ pair_at g column e
  same-pair e old =
      ap (λ (ends : NodeNo × NodeNo). pair (node_cell_of h ends.0.0 column) (node_cell_of h ends.1.0 column)) (more.ends e old)
      ∙ ap₂ pair (same-cell (ends_of g e).0.0) (same-cell (ends_of g e).1.0)

  same-pairs : (es : List ℕ) → Old es → map (pair_at h column) es ≡ map (pair_at g column) es
  same-pairs [] old = refl
  same-pairs (e ∷ es) old = ap₂ (λ (p : Cell × Cell) (ps : List (Cell × Cell)). p ∷ ps) (same-pair e (first-old e es old)) (same-pairs es (rest-old e es old))

  -- ---- the edges between the groups of a pair

  one-more : (b : Bool) (e : ℕ) (xs ys : List ℕ) → xs ≡ ys → cond b (e ∷ xs) xs ≡ cond b (e ∷ ys) ys
  one-more true e xs ys same = ap (λ (l : List ℕ). e ∷ l) same
  one-more false e xs ys same = same

  same-between : (p : Cell × Cell) (es : List ℕ) → Old es → edges_between h column p es ≡ edges_between g column p es
  same-between p [] old = refl
  same-between p (e ∷ es) old =
      ap (λ (q : Cell × Cell). cond (is_eq (pair_order q p)) (e ∷ edges_between h column p es) (edges_between h column p es)) (same-pair e (first-old e es old))
      ∙ one-more (is_eq (pair_order (pair_at g column e) p)) e (edges_between h column p es) (edges_between g column p es) (same-between p es (rest-old e es old))

  -- ---- sums

  same-sum : (sum : Option ℕ) → HasSumColumn g sum → (es : List ℕ) → Old es → sum_over h sum es ≡ sum_over g sum es
  same-sum None has es old = refl
  same-sum (Some summed) has [] old = refl
  same-sum (Some summed) has (e ∷ es) old =
      ap (λ (c : Cell). number_in c +ℤ sum_over h (Some summed) es) (more.cells e summed (first-old e es old) has)
      ∙ ap (λ (z : ℤ). number_in (edge_cell_of g e summed) +ℤ z) (same-sum (Some summed) has es (rest-old e es old))

  -- ---- rows

  module _ (sum : Option ℕ) (has : HasSumColumn g sum) (es : List ℕ) (old : Old es) where
    abbrev row : Cell × Cell → ℕ → ℤ → GroupRow
    row p count total = record { from = group_cell p.0; to = group_cell p.1; count = count; sum = total }

    row-at : (p : Cell × Cell) → row_of h column sum es p ≡ row_of g column sum es p
    row-at p =
        ap (λ (l : List ℕ). row p (length l) (sum_over h sum l)) (same-between p es old)
        ∙ ap (row p (length (edges_between g column p es)))
        (same-sum sum has (edges_between g column p es) (All-filter (λ e. is_eq (pair_order (pair_at g column e) p)) (λ e. e < length g.ends) es old))

    pub same-rows-over : rows_of h column sum es ≡ rows_of g column sum es
    same-rows-over =
        ap (λ (ps : List (Cell × Cell)). map (row_of h column sum es) (rising pair_order ps)) (same-pairs es old)
        ∙ ap (λ f. map f (rising pair_order (map (pair_at g column) es))) (λ i p. row-at p i)
