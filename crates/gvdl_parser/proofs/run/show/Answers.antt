use Rattle.phrase_theory.specs.SequenceLaws.{passed_on, first_stuck, ◌▹◌, ◌▸◌, pure_found}
use Rattle.gvdl_parser.specs.Statements.{show}
use Rattle.gvdl_parser.proofs.StatementLaws.{statement_phrases}
use Rattle.gvdl_parser.proofs.run.show.Goals as goal

pub returns-in_err-word : goal.returns-in_err-word
unfolding show
returns-in_err-word c = λ n. passed_on _ c.from_residual.ensures.1 (first_stuck (c.in_err-word.ensures n) (λ m a. search statement_phrases depth 40))

pub returns-in_err-what : goal.returns-in_err-what
unfolding show
returns-in_err-what c = λ n. passed_on _ c.from_residual-in_err-what.ensures.1 ((c.in_ok-word.ensures n) ▹ first_stuck (c.in_err-what.ensures n) (λ m a. search statement_phrases depth 40))

pub returns : goal.returns
unfolding show
returns c = λ n. (c.in_ok-word.ensures n) ▸ (c.in_ok-what.ensures n) ▸ pure_found
