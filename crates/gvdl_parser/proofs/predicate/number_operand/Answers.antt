use Rattle.gvdl_tree.specs.declared.predicate.Operand.TheVariants as operand
use Rattle.std.proofs.Common.{sym, subst, rules}
use Rattle.phrase_theory.specs.Reading.{alone, Finds}
use Rattle.phrase_theory.specs.SequenceLaws.{passed_on, first_stuck, ◌▸◌, pure_found}
use Rattle.gvdl_parser.specs.Predicates.{number_operand}
use Rattle.gvdl_parser.proofs.Having.{phrases, int_has, prop_has, field_has, operand_has, negation_has, predicate_has}
use Rattle.std.proofs.Common.{ℤ}
use mir.Val.{SFits}
use mir.Syntax.{w64}
use Rattle.std.proofs.lemmas.Int.{to_z-of_z}
use Rattle.gvdl_parser.proofs.predicate.number_operand.Goals as goal

pub returns-in_err-number : goal.returns-in_err-number
unfolding number_operand
returns-in_err-number c = λ n. passed_on _ c.from_residual.ensures.1 (first_stuck (c.in_err-number.ensures n) (λ m a. search (phrases, int_has, prop_has, field_has, operand_has, negation_has, predicate_has) depth 20))

pub returns : goal.returns
unfolding number_operand
returns c = λ n. let f : SFits w64 c.in_ok-number.number = search rules in subst (λ (z : ℤ). Finds (λ _. number_operand) alone n c.args.cursor.now.rest.now (operand.Number z) c.int.new.cursor.rest.now) (sym (to_z-of_z w64 _ f)) (c.in_ok-number.ensures n ▸ pure_found)
