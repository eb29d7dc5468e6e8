use Rattle.phrase_theory.specs.SequenceLaws.{passed_on, first_stuck, ◌▹◌, ◌▸◌, pure_found}
use Rattle.gvdl_parser.specs.Statements.{part}
use Rattle.gvdl_parser.proofs.StatementLaws.{statement_phrases}
use Rattle.gvdl_parser.proofs.view.number_part.Goals as goal

pub returns-in_err-word : goal.returns-in_err-word
unfolding part
returns-in_err-word c = λ n. passed_on _ c.from_residual.ensures.1 (first_stuck (c.in_err-word.ensures n) (λ m a. search statement_phrases depth 40))

pub returns-in_err-number : goal.returns-in_err-number
unfolding part
returns-in_err-number c = λ n. passed_on _ c.from_residual-in_err-number.ensures.1 ((c.in_ok-word.ensures n) ▹ first_stuck (c.in_err-number.ensures.read n) (λ m a. search statement_phrases depth 40))

pub returns-in_err-sign : goal.returns-in_err-sign
unfolding part
returns-in_err-sign c = λ n. passed_on _ c.from_residual-in_err-sign.ensures.1 ((c.in_ok-word.ensures n) ▹ (c.in_ok-number.ensures.read n) ▹ first_stuck (c.in_err-sign.ensures n) (λ m a. search statement_phrases depth 40))

pub returns : goal.returns
unfolding part
returns c = λ n. (c.in_ok-word.ensures n) ▸ (c.in_ok-number.ensures.read n) ▸ (c.in_ok-sign.ensures n) ▸ pure_found
