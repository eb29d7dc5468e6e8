-- A matrix with more views behind its own has the same edges in these.
use Rattle.std.proofs.Common.{◌≡◌, ◌<◌, ℕ, Bool, false, List, [], length, get_or, sym, ap, subst, arith, length-append}
use Rattle.std.specs.Prelude.{◌&&◌, All}
use Rattle.std.proofs.Math.ListN.{get_or-append}
use Rattle.std.proofs.lemmas.List.Elements.{All-weaker, filter_agree}
use Rattle.graph_model.specs.declared.number.EdgeNo.{EdgeNo}
use Rattle.graph_model.specs.declared.number.ViewNo.{ViewNo}
use Rattle.graph_model.specs.GraphData.{GraphData}
use Rattle.edge_predicates.specs.declared.pred.ViewRule.{ViewRule}
use Rattle.view_matrix.specs.Matrices.{MatrixData, IsView, all_edges, bit_of, column_of, edges_in, live_of, rule_columns, with_views}
use Rattle.view_versions.specs.declared.run.ViewRun.{ViewRun}
use Rattle.view_versions.specs.Laws.{StandsWithMore}
use Rattle.view_versions.proofs.Holding.{by-views, held-still}

module _ (m : MatrixData) (graph : GraphData) (rules : List ViewRule) (v : ℕ) (low : v < length m.columns) where
  same-column : column_of (with_views m graph rules) v ≡ column_of m v
  same-column = get_or-append m.columns (rule_columns graph rules) [] v low

  same-edges : edges_in (with_views m graph rules) v ≡ edges_in m v
  same-edges = filter_agree (λ (e : EdgeNo). bit_of (with_views m graph rules) e.0 v) (λ (e : EdgeNo). bit_of m e.0 v) (λ e. ap (λ (c : List Bool). live_of m e.0 && get_or c e.0 false) same-column) (all_edges m)

pub stands-with-more : StandsWithMore
stands-with-more answer m e graph rules stands =
    let within : All (λ (run : ViewRun). IsView m run.view) e.runs.items = by-views (IsView m) e.runs.items (subst (λ (views : List ViewNo). All (IsView m) views) (sym stands.all) stands.views) in
    record {
      matrix = stands.matrix;
      views = All-weaker (IsView m) (IsView (with_views m graph rules)) (λ view low. omega (arith, low, length-append m.columns (rule_columns graph rules))) e.order stands.views;
      all = stands.all;
      holds = λ k d low. held-still answer e.program.now e.graph.now e.rounds m (with_views m graph rules) (get_or e.runs.items k d) (sym (same-edges m graph rules (get_or e.runs.items k d).view.0 (within k d low))) (stands.holds k d low);
    }
