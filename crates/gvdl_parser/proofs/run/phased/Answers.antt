use Rattle.phrase_theory.specs.SequenceLaws.{passed_on, first_stuck, ◌▸◌, pure_found}
use Rattle.gvdl_parser.specs.Statements.{phased}
use Rattle.gvdl_parser.proofs.StatementLaws.{statement_phrases}
use Rattle.gvdl_parser.proofs.run.phased.Goals as goal

pub returns-in_err-number : goal.returns-in_err-number
unfolding phased
returns-in_err-number c = λ n. passed_on _ c.from_residual.ensures.1 (first_stuck (c.in_err-number.ensures n) (λ m a. search statement_phrases depth 40))

pub returns : goal.returns
unfolding phased
returns c = λ n. (c.in_ok-number.ensures n) ▸ pure_found
