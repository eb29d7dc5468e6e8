use Rattle.std.proofs.Common.{◌≡◌, ◌∙◌, sym, ap, ◌∷◌, arith}
use Rattle.csv.specs.Records.{fields_of}
use Rattle.graph_loader.specs.DataFiles.{records_of}
use Rattle.graph_loader.specs.RowsLeft.{left_of}
use Rattle.graph_loader.proofs.TableFacts.{more-fits, more-header-refused, more-refused, more-spelled}
use Rattle.graph_loader.proofs.edges.more_edges.Goals as goal

pub returns-in-Ok-clause-ok : goal.returns-in-Ok-clause-ok
returns-in-Ok-clause-ok c =
    let some : records_of c.args.bytes.now ≡ fields_of c.row.result.now ∷ left_of c.read_header.new.self.reader =
    sym c.new-rows.ensures.left ∙ c.in_ok-read_header.ensures.row ∙ ap (λ r. fields_of r ∷ left_of c.read_header.new.self.reader) (sym c.row.ensures) in
    more-spelled c.args.statement c.args.bytes.now c.args.graph.now (fields_of c.row.result.now) (left_of c.read_header.new.self.reader) some
    c.as_slice-columns.result.now (c.as_slice-columns.ensures ∙ c.edge_columns.ensures.value) c.edge_count.result c.edge_count.ensures.count c.args.ids.now.keys c.requires.same c.in-Ok.ensures
    c.edges_under.result c.edges_under.ensures.told c.edges_under.ensures.ends c.edges_under.ensures.cells

pub returns-in-Ok-clause-fit : goal.returns-in-Ok-clause-fit
returns-in-Ok-clause-fit c =
    more-fits c.args.statement c.args.bytes.now c.args.graph.now c.edges_under.result (omega (arith, c.edge_count.ensures.count, c.edge_count.ensures.limit)) (returns-in-Ok-clause-ok c)

pub returns-in-Ok-clause-fault : goal.returns-in-Ok-clause-fault
returns-in-Ok-clause-fault c =
    let some : records_of c.args.bytes.now ≡ fields_of c.row.result.now ∷ left_of c.read_header.new.self.reader =
    sym c.new-rows.ensures.left ∙ c.in_ok-read_header.ensures.row ∙ ap (λ r. fields_of r ∷ left_of c.read_header.new.self.reader) (sym c.row.ensures) in
    more-refused c.args.statement c.args.bytes.now c.args.graph.now (fields_of c.row.result.now) (left_of c.read_header.new.self.reader) some
    c.as_slice-columns.result.now (c.as_slice-columns.ensures ∙ c.edge_columns.ensures.value) c.edge_count.result c.edge_count.ensures.count c.args.ids.now.keys c.requires.same c.in-Ok.ensures
    c.edges_under.result c.edges_under.ensures.told

pub returns-clause-fault : goal.returns-clause-fault
returns-clause-fault c =
    let some : records_of c.args.bytes.now ≡ fields_of c.row.result.now ∷ left_of c.read_header.new.self.reader =
    sym c.new-rows.ensures.left ∙ c.in_ok-read_header.ensures.row ∙ ap (λ r. fields_of r ∷ left_of c.read_header.new.self.reader) (sym c.row.ensures) in
    rw c.of_record.ensures
    (more-header-refused c.args.statement c.args.bytes.now c.args.graph.now (fields_of c.row.result.now) (left_of c.read_header.new.self.reader) some
    c.as_slice-columns.result.now (c.as_slice-columns.ensures ∙ c.edge_columns.ensures.value) c.in-Err.refusal c.in-Err.ensures)
