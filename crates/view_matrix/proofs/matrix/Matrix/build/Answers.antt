-- Each column has a bit for each edge.
use Rattle.std.proofs.Common.{◌≡◌, ◌∙◌, Bool, List, length, map, All, ap, sym, subst, arith, Bor}
use Rattle.std.proofs.lemmas.List.{length-map}
use Rattle.edge_predicates.specs.declared.pred.ViewRule.{ViewRule}
use Rattle.view_matrix.specs.Matrices.{rule_column, rule_columns}
use Rattle.view_matrix.proofs.MatrixBits.{column_lengths}
use Rattle.view_matrix.proofs.matrix.Matrix.build.Goals as goal

pub invariant_of-result : goal.invariant_of-result
invariant_of-result c =
    let g = c.args.graph.now in
    let views = c.args.views.now in
    let made : c.in_ok-columns.columns.items ≡ rule_columns g views = c.in_ok-columns.ensures ∙ ap (rule_columns g) (ap (map (λ (rule : Bor ViewRule). rule.now)) c.as_slice-2.ensures.value ∙ c.in_ok-rules.ensures) in
    let live : length c.in_ok-live.live ≡ length g.ends = ap (λ (bits : List Bool). length bits) (c.in_ok-live.ensures ∙ c.as_slice.ensures) ∙ c.requires.live in
    record {
      few_edges = omega (arith, live, c.edge_count-edges.ensures.count, c.edge_count-edges.ensures.limit);
      few_views = omega (arith, ap (λ (columns : List (List Bool)). length columns) made, length-map views (rule_column g), c.requires.few);
      all = subst (λ (columns : List (List Bool)). All (λ (column : List Bool). length column ≡ length c.in_ok-live.live) columns) (sym made) (column_lengths g views (length c.in_ok-live.live) (sym live));
    }
