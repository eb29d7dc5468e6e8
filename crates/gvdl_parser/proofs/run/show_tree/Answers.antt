use Rattle.phrase_theory.specs.SequenceLaws.{passed_on, first_stuck, ◌▸◌, pure_found}
use Rattle.gvdl_parser.specs.Statements.{show_tree}
use Rattle.gvdl_parser.proofs.StatementLaws.{statement_phrases}
use Rattle.gvdl_parser.proofs.run.show_tree.Goals as goal

pub returns-in_err-name : goal.returns-in_err-name
unfolding show_tree
returns-in_err-name c = λ n. passed_on _ c.from_residual.ensures.1 (first_stuck (c.in_err-name.ensures n) (λ m a. search statement_phrases depth 40))

pub returns : goal.returns
unfolding show_tree
returns c = λ n. (c.in_ok-name.ensures n) ▸ pure_found
