-- What `dist` means.
use Rattle.std.specs.Prelude.{◌≡◌, ℕ, ℤ, pos, nat_lt, true, IsTrue, List, All, Contains, length, sum_by, refl}
use Rattle.std.proofs.Common.{arith, ap, sym, ◌∙◌}
use Rattle.std.proofs.lemmas.Bool.{and_parts, cond-true}
use Rattle.std.proofs.lemmas.List.Elements.{All-contains}
use Rattle.graph_model.specs.declared.value.Val.{Val}
use Rattle.graph_model.specs.declared.value.Val.TheVariants.{Nil, Num}
use Rattle.graph_model.specs.GraphData.{GraphData, Cell, edge_cell_of, kind_at}
use Rattle.vertex_lang.specs.declared.arc.Arc.{Arc}
use Rattle.vertex_lang.specs.declared.program.Expr.TheVariants as expr
use Rattle.vertex_lang.specs.Arcs.{IsArc, outdeg}
use Rattle.vertex_lang.specs.Expressions.{send_words, edge_value, updated}
use Rattle.vertex_lang.specs.Leaves.{is_int, is_int_column}
use Rattle.vertex_lang.specs.Lone.{answer_of}
use Rattle.vertex_lang.specs.Rounds.{value_at, carried}
use Rattle.vertex_lang.specs.Trees.{value-EdgeProp}
use Rattle.vertex_lang.specs.Values.{added, value_of_cell}
use Rattle.graph_meanings.specs.Clamping.{same-natural}
use Rattle.graph_algos.specs.Dist.{dist}
use Rattle.graph_meanings.specs.Laws.{DistancesMean, DistancesSettle}
use Rattle.graph_meanings.specs.LeastCosts.{AddsWeights}
use Rattle.graph_meanings.specs.Meanings.{HasWalk, HasWeights, cell_weight, weight_in, walk_weight}
use Rattle.graph_meanings.specs.SettledCosts.{AnyCost, AreSmall, means, settles}
use Rattle.graph_meanings.specs.SourceLaws.{sum-is, sum-carries, sum-brings, least-of, source-starts, walk-from, cost-from}

-- the value of a cell that holds such a number is its weight
cell-value : (c : Cell) (n : ℕ) → c ≡ Cell.int (pos n) → value_of_cell c ≡ Num (pos (cell_weight c))
cell-value c n e = ap value_of_cell e ∙ sym (ap (λ (d : Cell). Num (pos (cell_weight d))) e)

module _ (s : ℤ) (column : ℕ) (graph : GraphData) (arcs : List Arc) (is_column : IsTrue (is_int_column graph.edge_columns column)) (has : HasWeights graph column arcs) where
  arc-value : (a : Arc) → Contains arcs a → edge_value graph a.edge.0 column ≡ Num (pos (weight_in graph column a))
  arc-value a given =
      let cell = All-contains (λ b. (n : ℕ) × (edge_cell_of graph b.edge.0 column ≡ Cell.int (pos n))) arcs a has.present given in
      cond-true (nat_lt column (length graph.edge_columns)) (value_of_cell (edge_cell_of graph a.edge.0 column)) Nil (and_parts (nat_lt column (length graph.edge_columns)) (is_int (kind_at graph.edge_columns column)) is_column).0
      ∙ cell-value (edge_cell_of graph a.edge.0 column) cell.0 cell.1

  weight-more : (values : List Val) (a : Arc) → Contains arcs a → carried (dist s column) graph arcs values a ≡ added true (value_at values a.tail.0) (Num (pos (weight_in graph column a)))
  weight-more values a given =
      let words = send_words graph a.tail.0 (value_at values a.tail.0) (outdeg arcs a.tail.0) a.edge.0 in
      sum-is (expr.EdgeProp column) words ∙ ap (λ (x : Val). added true (value_at values a.tail.0) x) (value-EdgeProp column words ∙ arc-value a given)

  dist-adds : AddsWeights (dist s column) graph arcs (weight_in graph column)
  dist-adds = record {
    gathers = refl;
    updates = refl;
    starts = λ v z low e. (0, (source-starts s graph v z e).1, omega arith);
    carries = λ values a m given e. sum-carries (value_at values a.tail.0) (carried (dist s column) graph arcs values a) m (weight_in graph column a) (weight-more values a given) e;
    brings = λ values a z given e. sum-brings (value_at values a.tail.0) (carried (dist s column) graph arcs values a) (weight_in graph column a) z (weight-more values a given) e;
  }

  module _ (are_arcs : All (IsArc graph) arcs) where
    dist-small : AreSmall (dist s column) graph arcs are_arcs (weight_in graph column) dist-adds
    dist-small from first walk low e short light =
        let none = same-natural first 0 (source-starts s graph from (pos first) e).1 in
        omega (arith, none, has.small)

    weighed : (walk : List Arc) → walk_weight graph column walk ≡ sum_by (weight_in graph column) walk
    weighed walk = refl

pub distances-mean : DistancesMean
distances-mean graph arcs s column limit are_arcs is_column has settled v low =
    let adds = dist-adds s column graph arcs is_column has in
    let weight = weight_in graph column in
    let measure = walk_weight graph column in
    let weighs = weighed s column graph arcs is_column has are_arcs in
    least-of (AnyCost (dist s column) graph arcs are_arcs weight adds v) (HasWalk graph arcs measure s v) (value_at (answer_of updated (dist s column) graph arcs limit).values v)
    (λ n c. walk-from (dist s column) s refl graph arcs weight measure weighs c.0 v n c.1)
    (λ n h. cost-from (dist s column) s refl graph arcs weight measure weighs v n h)
    (means (dist s column) graph arcs are_arcs weight adds (dist-small s column graph arcs is_column has are_arcs) limit settled v low)

pub distances-settle : DistancesSettle
distances-settle graph arcs s column limit are_arcs is_column has some enough = settles (dist s column) graph arcs are_arcs (weight_in graph column) (dist-adds s column graph arcs is_column has) limit some enough
