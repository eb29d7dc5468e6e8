use Rattle.std.proofs.Common.{sym}
use Rattle.csv.specs.Records.{fields_of}
use Rattle.graph_loader.proofs.FieldFacts.{field-within, field-is}
use Rattle.graph_loader.proofs.fields.field.Goals as goal

pub unreachable-requires : goal.unreachable-requires
unreachable-requires c = field-within (fields_of c.args.row.now) c.args.place c.requires (sym c.in-None.ensures.value)

pub returns : goal.returns
returns c = field-is (fields_of c.args.row.now) c.args.place c.in-Some.field.now c.requires c.in-Some.ensures.value
