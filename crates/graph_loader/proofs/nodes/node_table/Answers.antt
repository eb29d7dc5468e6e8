use Rattle.std.proofs.Common.{◌≡◌, ◌∙◌, sym, ap, ◌∷◌}
use Rattle.csv.specs.Records.{fields_of}
use Rattle.graph_loader.specs.declared.fault.DataFile.TheVariants as file
use Rattle.graph_loader.specs.DataFiles.{first_words, records_of}
use Rattle.graph_loader.specs.RowsLeft.{left_of}
use Rattle.graph_loader.specs.ColumnLaws.{columns-are}
use Rattle.graph_loader.proofs.TableFacts.{nodes-spelled}
use Rattle.graph_loader.proofs.nodes.node_table.Goals as goal

pub nodes_under-requires-clause-few : goal.nodes_under-requires-clause-few
nodes_under-requires-clause-few c = (columns-are (first_words file.Nodes) (fields_of c.row.result.now) 1 c.in-Ok.columns c.in-Ok.ensures).0

pub returns-in-Ok-clause-ok : goal.returns-in-Ok-clause-ok
returns-in-Ok-clause-ok c =
    let some : records_of c.args.bytes.now ≡ fields_of c.row.result.now ∷ left_of c.read_header.new.self.reader =
    sym c.new-rows.ensures.left ∙ c.in_ok-read_header.ensures.row ∙ ap (λ r. fields_of r ∷ left_of c.read_header.new.self.reader) (sym c.row.ensures) in
    nodes-spelled c.args.bytes.now (fields_of c.row.result.now) (left_of c.read_header.new.self.reader) c.in-Ok.columns some c.in-Ok.ensures
    c.nodes_under.result c.nodes_under.ensures.told c.nodes_under.ensures.ids c.nodes_under.ensures.columns c.nodes_under.ensures.cells
