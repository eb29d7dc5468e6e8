use Rattle.std.proofs.Common.{length}
use Rattle.phrase_theory.specs.Phrases.{many}
use Rattle.phrase_theory.specs.ChainLaws.{Front}
use Rattle.gvdl_parser.specs.Terminals.{opens}
use Rattle.gvdl_parser.specs.Statements.{statement_phrase, after_script}
use Rattle.gvdl_parser.proofs.script.statements.Given as goal

abbrev pub invariant-more : goal.invariant-more
invariant-more l = Front opens statement_phrase (λ n. many (statement_phrase n)) after_script (λ xs. xs) l.levels l.fn.cursor.rest.now l.cursor.rest.now l.statements

abbrev pub decreases-more : goal.decreases-more
decreases-more l = length l.cursor.rest.now
