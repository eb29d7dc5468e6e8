use Rattle.std.proofs.Common.{arith}
use Rattle.csv.specs.Records.{fields_of}
use Rattle.graph_loader.proofs.HeaderFacts.{one-too-many}
use Rattle.graph_loader.proofs.header.expect_end.Goals as goal

pub returns-then-place-len : goal.returns-then-place-len
returns-then-place-len c = rw c.blame.ensures (one-too-many (fields_of c.args.row.now) c.args.place (omega arith))
