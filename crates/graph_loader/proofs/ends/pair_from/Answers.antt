use Rattle.std.proofs.Common.{◌≡◌, ◌∙◌, sym, ap, Some}
use Rattle.csv.specs.Records.{fields_of}
use Rattle.graph_loader.specs.DataFiles.{field_of}
use Rattle.graph_loader.specs.Spelling.{id_spelled}
use Rattle.graph_loader.proofs.EndFacts.{pair-is-found}
use Rattle.graph_loader.proofs.ends.pair_from.Goals as goal

pub returns-clause-ends : goal.returns-clause-ends
returns-clause-ends c =
    let row = fields_of c.args.row.now in
    let source : id_spelled (field_of row 0) ≡ Some c.in-Some.source_id = ap id_spelled (sym c.field.ensures) ∙ sym c.in-Some.ensures in
    let destination : id_spelled (field_of row 1) ≡ Some c.in-Some-id_from.destination_id = ap id_spelled (sym c.field-2.ensures) ∙ sym c.in-Some-id_from.ensures in
    pair-is-found c.args.nodes.now.ids.now.keys row c.in-Some.source_id c.in-Some-id_from.destination_id source destination
