use Rattle.csv.specs.Records.{fields_of}
use Rattle.csv.specs.Reading.{error_kind}
use Rattle.graph_loader.proofs.RowFacts.{given-left, fails-of-source}
use Rattle.graph_loader.proofs.rows.Rows.advance.Goals as goal

pub refused-requires : goal.refused-requires
refused-requires c =
    fails-of-source c.args.self.now.reader c.read_byte_record.new.self (error_kind c.in-Err.error) c.requires (c.in-Err.ensures.why c.requires.one)

pub returns-in-Ok-clause-row : goal.returns-in-Ok-clause-row
returns-in-Ok-clause-row c =
    given-left c.args.self.now.reader c.read_byte_record.new.self c.in-Ok.found (fields_of c.read_byte_record.new.row) c.requires (c.in-Ok.ensures.reads c.requires.trim c.requires.one)
