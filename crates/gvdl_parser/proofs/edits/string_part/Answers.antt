use Rattle.phrase_theory.specs.SequenceLaws.{passed_on, first_stuck, ◌▹◌, ◌▸◌, pure_found}
use Rattle.gvdl_parser.specs.Statements.{part}
use Rattle.gvdl_parser.proofs.StatementLaws.{statement_phrases}
use Rattle.gvdl_parser.proofs.edits.string_part.Goals as goal

pub returns-in_err-word : goal.returns-in_err-word
unfolding part
returns-in_err-word c = λ n. passed_on _ c.from_residual.ensures.1 (first_stuck (c.in_err-word.ensures n) (λ m a. search statement_phrases depth 40))

pub returns-in_err-string : goal.returns-in_err-string
unfolding part
returns-in_err-string c = λ n. passed_on _ c.from_residual-in_err-string.ensures.1 ((c.in_ok-word.ensures n) ▹ first_stuck (c.in_err-string.ensures n) (λ m a. search statement_phrases depth 40))

pub returns-in_err-sign : goal.returns-in_err-sign
unfolding part
returns-in_err-sign c = λ n. passed_on _ c.from_residual-in_err-sign.ensures.1 ((c.in_ok-word.ensures n) ▹ (c.in_ok-string.ensures n) ▹ first_stuck (c.in_err-sign.ensures n) (λ m a. search statement_phrases depth 40))

pub returns : goal.returns
unfolding part
returns c = λ n. (c.in_ok-word.ensures n) ▸ (c.in_ok-string.ensures n) ▸ (c.in_ok-sign.ensures n) ▸ pure_found
