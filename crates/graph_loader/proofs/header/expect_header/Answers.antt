use Rattle.std.proofs.Common.{sym, subst, arith}
use Rattle.csv.specs.Records.{fields_of}
use Rattle.graph_loader.specs.Answers.{Tells}
use Rattle.graph_loader.proofs.HeaderFacts.{columns-end}
use Rattle.graph_loader.proofs.header.expect_header.Goals as goal

pub returns : goal.returns
returns c =
    subst (λ o. Tells o c.expect_end.result) (sym (columns-end (fields_of c.args.row.now) c.args.columns.now c.loop-place.place _ (omega arith) (omega arith) c.loop-place.invariant)) c.expect_end.ensures
