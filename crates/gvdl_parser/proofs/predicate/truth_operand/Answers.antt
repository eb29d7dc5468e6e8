use Rattle.phrase_theory.specs.SequenceLaws.{passed_on, first_stuck, ◌▸◌, pure_found}
use Rattle.gvdl_parser.specs.Predicates.{truth_operand}
use Rattle.gvdl_parser.proofs.Having.{phrases, int_has, prop_has, field_has, operand_has, negation_has, predicate_has}
use Rattle.gvdl_parser.proofs.predicate.truth_operand.Goals as goal

pub returns-in_err-truth : goal.returns-in_err-truth
unfolding truth_operand
returns-in_err-truth c = λ n. passed_on _ c.from_residual.ensures.1 (first_stuck (c.in_err-truth.ensures n) (λ m a. search (phrases, int_has, prop_has, field_has, operand_has, negation_has, predicate_has) depth 20))

pub returns : goal.returns
unfolding truth_operand
returns c = λ n. (c.in_ok-truth.ensures n) ▸ pure_found
