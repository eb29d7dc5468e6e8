use Rattle.phrase_theory.specs.SequenceLaws.{passed_on, first_stuck, ◌▹◌, ◌▸◌, pure_found}
use Rattle.gvdl_parser.specs.Statements.{insert}
use Rattle.gvdl_parser.proofs.StatementLaws.{statement_phrases}
use Rattle.gvdl_parser.proofs.edits.insert.Goals as goal

pub returns-in_err-word : goal.returns-in_err-word
unfolding insert
returns-in_err-word c = λ n. passed_on _ c.from_residual.ensures.1 (first_stuck (c.in_err-word.ensures n) (λ m a. search statement_phrases depth 40))

pub returns-in_err-file : goal.returns-in_err-file
unfolding insert
returns-in_err-file c = λ n. passed_on _ c.from_residual-in_err-file.ensures.1 ((c.in_ok-word.ensures n) ▹ first_stuck (c.in_err-file.ensures n) (λ m a. search statement_phrases depth 40))

pub returns : goal.returns
unfolding insert
returns c = λ n. (c.in_ok-word.ensures n) ▸ (c.in_ok-file.ensures n) ▸ pure_found
