use Rattle.phrase_theory.specs.SequenceLaws.{one_missing}
use Rattle.gvdl_parser.proofs.cursor.Cursor.number.Goals as goal

pub returns-in_default-clause-read : goal.returns-in_default-clause-read
returns-in_default-clause-read c = λ n. one_missing 0 _ n c.in_default.ensures
