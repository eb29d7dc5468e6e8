use Rattle.phrase_theory.specs.SequenceLaws.{passed_on, first_stuck, ◌▸◌, pure_found}
use Rattle.gvdl_parser.specs.Statements.{split_none}
use Rattle.gvdl_parser.proofs.StatementLaws.{statement_phrases}
use Rattle.gvdl_parser.proofs.run.split_none.Goals as goal

pub returns-in_err-word : goal.returns-in_err-word
unfolding split_none
returns-in_err-word c = λ n. passed_on _ c.from_residual.ensures.1 (first_stuck (c.in_err-word.ensures n) (λ m a. search statement_phrases depth 40))

pub returns : goal.returns
unfolding split_none
returns c = λ n. (c.in_ok-word.ensures n) ▸ pure_found
