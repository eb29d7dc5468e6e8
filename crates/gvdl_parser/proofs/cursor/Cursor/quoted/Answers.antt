use Rattle.std.proofs.Common.{[]}
use Rattle.phrase_theory.specs.SequenceLaws.{one_missing}
use Rattle.gvdl_parser.proofs.cursor.Cursor.quoted.Goals as goal

pub returns-in_default : goal.returns-in_default
returns-in_default c = λ n. one_missing [] _ n c.in_default.ensures
