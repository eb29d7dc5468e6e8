use Rattle.std.proofs.Common.{◌≡◌, ◌∙◌, sym, ap, true, ℕ, List, [], length, arith}
use Rattle.std.proofs.lemmas.List.{length-map}
use Rattle.std.proofs.lemmas.Result.{err_from_is_err_and}
use Rattle.csv.specs.Records.{fields_of}
use Rattle.graph_model.specs.declared.cell.Column.{Column}
use Rattle.graph_model.specs.declared.number.NodeNo.{NodeNo}
use Rattle.graph_loader.specs.DataFiles.{edge_fault, ends_of_row, kinds_of}
use Rattle.graph_loader.specs.RowsLeft.{left_of, given}
use Rattle.graph_loader.specs.CellLaws.{no-cells}
use Rattle.graph_loader.proofs.EndFacts.{more-waits, none-waits, stops-by-row, width-waiting}
use Rattle.graph_loader.specs.RecordLaws.{nothing-yet}
use Rattle.graph_loader.proofs.edges.edges_under.Goals as goal

pub loop-cells-init : goal.loop-cells-init
loop-cells-init c =
    let ids = c.args.ids.now.keys in
    let all = left_of c.args.rows.now.reader in
    let none : c.new-ends.result ≡ [] = c.new-ends.ensures in
    let no_pair : c.new-waiting.result ≡ [] = c.new-waiting.ensures in (
      c.requires.ready,
      none-waits c.args.source ids (kinds_of c.args.columns.now) all all c.new-ends.result c.new-waiting.result c.in_ok-cells.cells.items
          (nothing-yet (NodeNo × NodeNo) c.args.source.file (ends_of_row ids) 2 (λ kinds. edge_fault c.args.source.before kinds ids) c.args.columns.now all c.new-ends.result c.in_ok-cells.cells.items none
          (c.in_ok-cells.ensures ∙ no-cells c.args.columns.now 2)) no_pair,
      omega (arith, ap (λ (l : List (NodeNo × NodeNo)). length l) none, ap (λ (l : List (ℕ × ℕ)). length l) no_pair),
    )

pub add_edge-requires-clause-few_columns : goal.add_edge-requires-clause-few_columns
add_edge-requires-clause-few_columns c =
    let width = width-waiting c.args.source c.args.ids.now.keys (kinds_of c.args.columns.now) _ _ _ _ _ c.loop-cells.invariant.1 in
    omega (arith, width, length-map c.args.columns.now (λ (k : Column). k.kind), c.requires.few_columns)

pub loop-cells-preserved : goal.loop-cells-preserved
loop-cells-preserved c =
    let row = fields_of c.row.result.now in
    let read : left_of c.loop-cells.rows.reader ≡ given true (fields_of c.advance.new.self.row) (left_of c.advance.new.self.reader) = rw c.if-branch.true at c.in_ok-advance.ensures.row in
    let l : left_of c.loop-cells.rows.reader ≡ given true row (left_of c.advance.new.self.reader) = read ∙ ap (λ r. given true (fields_of r) (left_of c.advance.new.self.reader)) (sym c.row.ensures) in (
      c.in_ok-advance.ensures.ready,
      more-waits c.args.source c.args.ids.now.keys (kinds_of c.args.columns.now) _ _ _ row _ _ _ c.loop-cells.invariant.1 l _ _ _ c.in_ok-add_edge.ensures.waits c.in_ok-add_edge.ensures.ends c.in_ok-add_edge.ensures.cells,
      c.in_ok-add_edge.ensures.few,
    )

pub returns-in_err-add_edge-clause-told : goal.returns-in_err-add_edge-clause-told
returns-in_err-add_edge-clause-told c =
    let row = fields_of c.row.result.now in
    let read : left_of c.loop-cells.rows.reader ≡ given true (fields_of c.advance.new.self.row) (left_of c.advance.new.self.reader) = rw c.if-branch.true at c.in_ok-advance.ensures.row in
    let l : left_of c.loop-cells.rows.reader ≡ given true row (left_of c.advance.new.self.reader) = read ∙ ap (λ r. given true (fields_of r) (left_of c.advance.new.self.reader)) (sym c.row.ensures) in
    let p = err_from_is_err_and c.from_residual-in_err-add_edge.result c.from_residual-in_err-add_edge.ensures.1 in
    rw (p.1, p.2) (stops-by-row c.args.source c.args.ids.now.keys (kinds_of c.args.columns.now) _ _ _ row _ _ _ c.loop-cells.invariant.1 l _ c.in_err-add_edge.ensures.told)
