use Rattle.std.proofs.Common.{◌≡◌, ◌∙◌, sym, ap, subst, [], ◌∷◌, Some}
use Rattle.std.proofs.lemmas.Result.{err_from_is_err_and}
use Rattle.csv.specs.Records.{fields_of}
use Rattle.graph_loader.specs.declared.fault.DataFile.TheVariants as file
use Rattle.graph_loader.specs.Answers.{IfFault}
use Rattle.graph_loader.specs.DataFiles.{edge_fault, ends_of_row, first_words, kinds_of, records_of, rows_fault}
use Rattle.graph_loader.specs.RowsLeft.{left_of}
use Rattle.graph_loader.specs.ColumnLaws.{columns-are}
use Rattle.graph_loader.proofs.TableFacts.{edges-refused}
use Rattle.graph_loader.proofs.edges.edge_table.Goals as goal

pub edges_under-requires-clause-few_columns : goal.edges_under-requires-clause-few_columns
edges_under-requires-clause-few_columns c = rw c.as_slice.ensures (columns-are (first_words file.Edges) (fields_of c.row.result.now) 1 c.in-Ok.columns c.in-Ok.ensures).0

pub returns-in_err-edges-in-Ok-clause-fault : goal.returns-in_err-edges-in-Ok-clause-fault
returns-in_err-edges-in-Ok-clause-fault c =
    let keys = c.args.ids.now.keys in
    let rest = left_of c.read_header.new.self.reader in
    let some : records_of c.args.bytes.now ≡ fields_of c.row.result.now ∷ rest = sym c.new-rows.ensures.left ∙ c.in_ok-read_header.ensures.row ∙ ap (λ r. fields_of r ∷ rest) (sym c.row.ensures) in
    let e = c.in_err-edges-in-Ok.field-0.0 in
    let p = err_from_is_err_and c.from_residual-in_err-edges-in-Ok.result c.from_residual-in_err-edges-in-Ok.ensures.1 in
    rw (p.1, p.2)
    (edges-refused keys c.args.bytes.now (fields_of c.row.result.now) rest c.in-Ok.columns some c.in-Ok.ensures e
    (subst (λ cs. IfFault e (λ f. rows_fault file.Edges (edge_fault 0 (kinds_of cs) keys) (ends_of_row keys) [] rest ≡ Some f)) c.as_slice.ensures c.in_err-edges-in-Ok.ensures.told))
