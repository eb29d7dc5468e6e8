use Rattle.phrase_theory.specs.SequenceLaws.{passed_on, first_stuck, ◌▹◌, ◌▸◌, pure_found}
use Rattle.gvdl_parser.specs.Predicates.{target_operand}
use Rattle.gvdl_parser.proofs.Having.{phrases, int_has, prop_has, field_has, operand_has, negation_has, predicate_has}
use Rattle.gvdl_parser.proofs.predicate.target_operand.Goals as goal

pub returns-in_err-word : goal.returns-in_err-word
unfolding target_operand
returns-in_err-word c = λ n. passed_on _ c.from_residual.ensures.1 (first_stuck (c.in_err-word.ensures n) (λ m a. search (phrases, int_has, prop_has, field_has, operand_has, negation_has, predicate_has) depth 20))

pub returns-in_err-sign : goal.returns-in_err-sign
unfolding target_operand
returns-in_err-sign c = λ n. passed_on _ c.from_residual-in_err-sign.ensures.1 ((c.in_ok-word.ensures n) ▹ first_stuck (c.in_err-sign.ensures n) (λ m a. search (phrases, int_has, prop_has, field_has, operand_has, negation_has, predicate_has) depth 20))

pub returns-in_err-field : goal.returns-in_err-field
unfolding target_operand
returns-in_err-field c = λ n. passed_on _ c.from_residual-in_err-field.ensures.1 ((c.in_ok-word.ensures n) ▹ (c.in_ok-sign.ensures n) ▹ first_stuck (c.in_err-field.ensures n) (λ m a. search (phrases, int_has, prop_has, field_has, operand_has, negation_has, predicate_has) depth 20))

pub returns : goal.returns
unfolding target_operand
returns c = λ n. (c.in_ok-word.ensures n) ▸ (c.in_ok-sign.ensures n) ▸ (c.in_ok-field.ensures n) ▸ pure_found
