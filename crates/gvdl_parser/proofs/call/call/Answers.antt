use Rattle.phrase_theory.specs.SequenceLaws.{passed_on, first_stuck, ◌▹◌, ◌▸◌}
use Rattle.phrase_theory.specs.LevelLaws.{mapped_found, mapped_fails}
use Rattle.gvdl_parser.specs.Statements.{call}
use Rattle.gvdl_parser.proofs.StatementLaws.{statement_phrases}
use Rattle.gvdl_parser.proofs.call.call.Goals as goal

pub returns-in_err-name : goal.returns-in_err-name
unfolding call
returns-in_err-name c = λ n. passed_on _ c.from_residual.ensures.1 (first_stuck (c.in_err-name.ensures n) (λ m a. search statement_phrases depth 40))

pub returns-in_err-args : goal.returns-in_err-args
unfolding call
returns-in_err-args c = λ n. passed_on _ c.from_residual-in_err-args.ensures.1 ((c.in_ok-name.ensures n) ▹ mapped_fails _ (c.in_err-args.ensures n))

pub returns : goal.returns
unfolding call
returns c = λ n. (c.in_ok-name.ensures n) ▸ mapped_found _ (c.in_ok-args.ensures n)
