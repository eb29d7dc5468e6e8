use Rattle.std.proofs.Common.{◌≡◌, ◌∙◌, sym, ap, true, ℕ, ◌+◌, List, [], ◌∷◌, length, map, None, arith}
use Rattle.std.proofs.lemmas.List.{length-map, length-append}
use Rattle.csv.specs.Records.{fields_of}
use Rattle.graph_model.specs.declared.cell.Column.{Column}
use Rattle.graph_loader.specs.declared.fault.DataFile.TheVariants as file
use Rattle.graph_loader.specs.Answers.{fault_at}
use Rattle.graph_loader.specs.DataFiles.{id_of_row, kinds_of, node_fault}
use Rattle.graph_loader.specs.LoadSteps.{no_cells}
use Rattle.graph_loader.specs.RowsLeft.{left_of, given}
use Rattle.graph_loader.specs.CellLaws.{no-cells}
use Rattle.graph_loader.specs.RecordLaws.{few-nodes, kinds-so-far, more-so-far, nothing-yet, refused-at, width-so-far}
use Rattle.graph_loader.proofs.nodes.nodes_under.Goals as goal

pub loop-cells-init : goal.loop-cells-init
loop-cells-init c =
    let none : c.new-ids.result.keys ≡ [] = c.new-ids.ensures.empty in (
      c.requires.ready,
      nothing-yet ℕ file.Nodes id_of_row 1 node_fault c.args.columns (left_of c.args.rows.now.reader) c.new-ids.result.keys c.in_ok-cells.cells.items none
          (c.in_ok-cells.ensures ∙ ap (map (λ (k : Column). no_cells k.kind)) c.as_slice.ensures ∙ no-cells c.args.columns 1),
      omega (arith, ap (λ (l : List ℕ). length l) none),
    )

pub add_node-requires : goal.add_node-requires
add_node-requires c =
    let width = width-so-far ℕ file.Nodes id_of_row 1 node_fault (kinds_of c.args.columns) _ _ _ _ c.loop-cells.invariant.1 in
    omega (arith, width, length-map c.args.columns (λ (k : Column). k.kind), c.requires.few)

pub returns-in-Err-clause-told : goal.returns-in-Err-clause-told
returns-in-Err-clause-told c =
    let row = fields_of c.row.result.now in
    let read : left_of c.loop-cells.rows.reader ≡ given true (fields_of c.advance.new.self.row) (left_of c.advance.new.self.reader) = rw c.if-branch.true at c.in_ok-advance.ensures.row in
    let l : left_of c.loop-cells.rows.reader ≡ given true row (left_of c.advance.new.self.reader) = read ∙ ap (λ r. given true (fields_of r) (left_of c.advance.new.self.reader)) (sym c.row.ensures) in
    let at : c.of_record.result ≡ fault_at file.Nodes (length c.loop-cells.ids.keys + 2) c.in-Err.refusal = c.of_record.ensures ∙ ap (λ n. fault_at file.Nodes (n + 2) c.in-Err.refusal) c.len.ensures.len in
    rw at (refused-at ℕ file.Nodes id_of_row 1 node_fault (kinds_of c.args.columns) _ _ _ row _ c.loop-cells.cells.items c.in-Err.refusal c.loop-cells.invariant.1 l c.in-Err.ensures.told)

pub loop-cells-preserved : goal.loop-cells-preserved
loop-cells-preserved c =
    let row = fields_of c.row.result.now in
    let read : left_of c.loop-cells.rows.reader ≡ given true (fields_of c.advance.new.self.row) (left_of c.advance.new.self.reader) = rw c.if-branch.true at c.in_ok-advance.ensures.row in
    let l : left_of c.loop-cells.rows.reader ≡ given true row (left_of c.advance.new.self.reader) = read ∙ ap (λ r. given true (fields_of r) (left_of c.advance.new.self.reader)) (sym c.row.ensures) in
    let told : node_fault (kinds_of c.args.columns) c.loop-cells.ids.keys row ≡ None =
    ap (λ k. node_fault k c.loop-cells.ids.keys row) (sym (kinds-so-far ℕ file.Nodes id_of_row 1 node_fault (kinds_of c.args.columns) _ _ _ _ c.loop-cells.invariant.1)) ∙ c.in_default.ensures.told in
    let few = few-nodes (kinds_of c.args.columns) c.loop-cells.ids.keys row told in (
      c.in_ok-advance.ensures.ready,
      more-so-far ℕ file.Nodes id_of_row 1 node_fault (kinds_of c.args.columns) _ _ _ row _ _ c.loop-cells.cells.items _ c.loop-cells.invariant.1 l c.in_default.ensures.told c.in_default.ensures.id c.in_default.ensures.cells,
      omega (arith, few, ap (λ (l : List ℕ). length l) c.in_default.ensures.id, length-append c.loop-cells.ids.keys (id_of_row row ∷ [])),
    )
