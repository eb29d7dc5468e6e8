-- How many views a matrix of some rules has.
use Rattle.std.proofs.Common.{◌≡◌, ◌∙◌, ◌≤◌, ◌-◌, Bool, List, map, length, ap, arith}
use Rattle.std.specs.List.{range_with_len}
use Rattle.std.proofs.lemmas.List.{length-map}
use Rattle.std.proofs.lemmas.List.FromFn.{length-map-range_with_len}
use Rattle.edge_predicates.specs.declared.pred.ViewRule.{ViewRule}
use Rattle.graph_model.specs.declared.number.ViewNo.{ViewNo}
use Rattle.graph_model.specs.GraphData.{GraphData}
use Rattle.view_matrix.specs.Matrices.{MatrixData, matrix_of, rule_column}
use Rattle.view_order.specs.Places.{view}

-- no more than there are rules
pub few-views : (graph : GraphData) (live : List Bool) (rules : List ViewRule) (m : MatrixData) (views : List ViewNo) → length rules ≤ 1_024 → m ≡ matrix_of graph live rules
    → views ≡ map view (range_with_len 0 (length m.columns - 0)) → length views ≤ 1_024
few-views graph live rules m views few is from =
    let columns : length m.columns ≡ length rules = ap (λ (n : MatrixData). length n.columns) is ∙ length-map rules (rule_column graph) in
    let all : length views ≡ length m.columns - 0 = ap (λ (vs : List ViewNo). length vs) from ∙ length-map-range_with_len view 0 (length m.columns - 0) in
    omega (arith, few, columns, all)
