use Rattle.phrase_theory.specs.SequenceLaws.{passed_on, first_stuck, ◌▸◌, pure_found}
use Rattle.gvdl_parser.specs.Statements.{prop_arg}
use Rattle.gvdl_parser.proofs.StatementLaws.{statement_phrases}
use Rattle.gvdl_parser.proofs.call.prop_arg.Goals as goal

pub returns-in_err-property : goal.returns-in_err-property
unfolding prop_arg
returns-in_err-property c = λ n. passed_on _ c.from_residual.ensures.1 (first_stuck (c.in_err-property.ensures n) (λ m a. search statement_phrases depth 40))

pub returns : goal.returns
unfolding prop_arg
returns c = λ n. (c.in_ok-property.ensures n) ▸ pure_found
