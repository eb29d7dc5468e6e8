-- The rules of the scans are these.
use Rattle.std.proofs.Common.{◌∙◌, List, map, ap, sym, Bor}
use Rattle.std.proofs.lemmas.List.{take_all}
use Rattle.std.proofs.lemmas.Simd.{map-map}
use Rattle.edge_predicates.specs.declared.pred.ViewRule.{ViewRule}
use Rattle.view_matrix.specs.declared.scan.Scan.{Scan}
use Rattle.view_matrix.specs.Matrices.{rule_column}
use Rattle.view_matrix.proofs.ScannedWords.{if_ok}
use Rattle.view_matrix.proofs.rules.rule_columns.Goals as goal

pub returns : goal.returns
returns c =
    let g = c.args.graph.now in
    let scans : List Scan = c.loop-rule.scans.items in
    if_ok c.scanned_columns.result _ _ (λ columns is. is ∙ ap (map (λ (scan : Scan). rule_column g scan.rule.now)) c.as_slice.ensures.value ∙ sym (map-map (rule_column g) (λ (scan : Scan). scan.rule.now) scans) ∙ ap (map (rule_column g)) (c.loop-rule.invariant.rules ∙ ap (map (λ (rule : Bor ViewRule). rule.now)) (take_all c.loop-rule.rule-index c.args.rules.now c.loop-rule-test.false))) c.scanned_columns.ensures
