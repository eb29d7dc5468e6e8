use Rattle.phrase_theory.specs.SequenceLaws.{passed_on, first_stuck, ◌▸◌, pure_found}
use Rattle.gvdl_parser.specs.Statements.{split_every}
use Rattle.gvdl_parser.proofs.StatementLaws.{statement_phrases}
use Rattle.gvdl_parser.proofs.run.split_every.Goals as goal

pub returns-in_err-number : goal.returns-in_err-number
unfolding split_every
returns-in_err-number c = λ n. passed_on _ c.from_residual.ensures.1 (first_stuck (c.in_err-number.ensures n) (λ m a. search statement_phrases depth 40))

pub returns : goal.returns
unfolding split_every
returns c = λ n. (c.in_ok-number.ensures n) ▸ pure_found
