use Rattle.phrase_theory.specs.SequenceLaws.{passed_on, first_stuck, ◌▸◌, pure_found}
use Rattle.gvdl_parser.specs.Predicates.{edge_operand}
use Rattle.gvdl_parser.proofs.Having.{phrases, int_has, prop_has, field_has, operand_has, negation_has, predicate_has}
use Rattle.gvdl_parser.proofs.predicate.edge_operand.Goals as goal

pub returns-in_err-property : goal.returns-in_err-property
unfolding edge_operand
returns-in_err-property c = λ n. passed_on _ c.from_residual.ensures.1 (first_stuck (c.in_err-property.ensures n) (λ m a. search (phrases, int_has, prop_has, field_has, operand_has, negation_has, predicate_has) depth 20))

pub returns : goal.returns
unfolding edge_operand
returns c = λ n. (c.in_ok-property.ensures n) ▸ pure_found
