-- The weights of the first arcs, and of one arc more.
use Rattle.std.proofs.Common.{◌≡◌, ℕ, pos, ◌+◌, ◌-◌, ◌≤◌, ◌<◌, ◌^◌, List, Some, None, length, get_or, take, ap, subst, arith}
use Rattle.std.specs.Prelude.{All, sum_by}
use Rattle.std.proofs.lemmas.List.{take_all}
use Rattle.std.proofs.lemmas.List.Elements.{All-more}
use Rattle.std.proofs.lemmas.List.Sums.{sum_by_more, sum_by_more_le}
use Rattle.graph_model.specs.GraphData.{GraphData, Cell, edge_cell_of}
use Rattle.vertex_lang.specs.declared.arc.Arc.{Arc}
use Rattle.graph_meanings.specs.Meanings.{HasWeights, cell_weight, weight_in}
use Rattle.graph_meanings.specs.Weights.{weight_at, some-weight, no-weight}

module _ (graph : GraphData) (column : ℕ) (arcs : List Arc) where
  abbrev pub IsPresent : Arc → Type 0
  IsPresent a = (n : ℕ) × (edge_cell_of graph a.edge.0 column ≡ Cell.int (pos n))

  pub refused : (a : Arc) → IsPresent a → weight_at (edge_cell_of graph a.edge.0 column) ≡ None → ⊥
  refused a h e = no-weight (edge_cell_of graph a.edge.0 column) h.0 e h.1

  weighs : (a : Arc) (w : ℕ) → weight_at (edge_cell_of graph a.edge.0 column) ≡ Some w → weight_in graph column a ≡ w
  weighs a w e = ap cell_weight (some-weight (edge_cell_of graph a.edge.0 column) w e)

  pub none-refused : (i : ℕ) (d : Arc) → i < length arcs → weight_at (edge_cell_of graph (get_or arcs i d).edge.0 column) ≡ None → HasWeights graph column arcs → ⊥
  none-refused i d low e has = refused (get_or arcs i d) (has.present i d low) e

  pub heavy-refused : (i : ℕ) (d : Arc) (w total : ℕ) → i < length arcs → weight_at (edge_cell_of graph (get_or arcs i d).edge.0 column) ≡ Some w → total ≡ sum_by (weight_in graph column) (take i arcs) → total < 2 ^ 62 → 2 ^ 62 - total ≤ w → HasWeights graph column arcs → ⊥
  heavy-refused i d w total low e counted small heavy has = omega (arith, weighs (get_or arcs i d) w e, sum_by_more_le (weight_in graph column) arcs i d low, has.small)

  pub one-present : (i : ℕ) (d : Arc) (w : ℕ) → i < length arcs → weight_at (edge_cell_of graph (get_or arcs i d).edge.0 column) ≡ Some w → All IsPresent (take i arcs) → All IsPresent (take (i + 1) arcs)
  one-present i d w low e h = All-more IsPresent arcs i d low h (w, some-weight (edge_cell_of graph (get_or arcs i d).edge.0 column) w e)

  pub one-counted : (i : ℕ) (d : Arc) (w total : ℕ) → i < length arcs → weight_at (edge_cell_of graph (get_or arcs i d).edge.0 column) ≡ Some w → total ≡ sum_by (weight_in graph column) (take i arcs) → total + w ≡ sum_by (weight_in graph column) (take (i + 1) arcs)
  one-counted i d w total low e counted = omega (arith, weighs (get_or arcs i d) w e, sum_by_more (weight_in graph column) arcs i d low)

  pub all-weighed : (i total : ℕ) → length arcs ≤ i → All IsPresent (take i arcs) → total ≡ sum_by (weight_in graph column) (take i arcs) → total < 2 ^ 62 → HasWeights graph column arcs
  all-weighed i total end present counted small =
      let whole = take_all i arcs end in
      record {
        present = subst (λ (some : List Arc). All IsPresent some) whole present;
        small = subst (λ (n : ℕ). n < 2 ^ 62) (subst (λ (some : List Arc). total ≡ sum_by (weight_in graph column) some) whole counted) small;
      }
