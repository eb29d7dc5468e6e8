use Rattle.gvdl_tree.specs.declared.predicate.Operand.{Operand}
use Rattle.gvdl_tree.specs.declared.predicate.PredTree.TheVariants as pred
use Rattle.std.proofs.Common.{refl, sym, subst, rules, Some, ◌≡◌, ◌≢◌, ◌∙◌}
use Rattle.phrase_theory.specs.Reading.{next, Finds}
use Rattle.phrase_theory.specs.SequenceLaws.{passed_on, first_stuck, ◌▹◌, ◌▸◌, pure_found, word_found, one_found, phrase_left, phrase_pure}
use Rattle.phrase_theory.specs.ChoiceLaws.{left_at, right_at, left_fails_at, right_fails_at, avoids_either, nothing_at}
use Rattle.gvdl_parser.specs.Terminals.{cmp_token}
use Rattle.gvdl_parser.proofs.Nexts.{past}
use Rattle.gvdl_parser.specs.Predicates.{compared, missing, constant, atom, after_negation}
use Rattle.gvdl_parser.proofs.Having.{phrases, operand_has}
use Rattle.gvdl_parser.proofs.PredicateLaws.{behind_cmp, behind_is, is_no_cmp, missing_other, compared_other, not_alone}
use Rattle.gvdl_parser.proofs.Meanings.{cmp_token_at, cmp_token_one}
use Rattle.gvdl_tree.specs.declared.predicate.Cmp.{Cmp}
use Rattle.gvdl_tokens.specs.declared.word.Word.TheVariants as w
use Rattle.gvdl_tokens.specs.declared.token.Token.TheVariants as t
use Rattle.gvdl_parser.proofs.predicate.atom.Goals as goal

pub returns-in_err-first : goal.returns-in_err-first
unfolding atom compared missing
returns-in_err-first c = λ n. passed_on _ c.from_residual.ensures.1 (first_stuck (c.in_err-first.ensures n) (λ m a. phrase_left _ _ (search (phrases, operand_has) depth 20)))

pub returns-in_err-second : goal.returns-in_err-second
unfolding atom compared missing
returns-in_err-second c = λ n. let e : next c.operand.new.cursor.rest.now ≡ Some (cmp_token c.in-Some.cmp) = cmp_token_at c.in-Some.cmp _ (sym c.kind.ensures ∙ c.in-Some.ensures.found) in passed_on _ c.from_residual-in_err-second.ensures.1 (c.in_ok-first.ensures n ▹ left_fails_at refl (λ m. behind_cmp c.in_ok-first.first c.in-Some.cmp _ e) (one_found (cmp_token_one c.in-Some.cmp) e c.skip.ensures ▹ first_stuck (c.in_err-second.ensures n) (λ m a. phrase_pure _)))

pub returns-in-Some : goal.returns-in-Some
unfolding atom compared missing
returns-in-Some c = λ n. let e : next c.operand.new.cursor.rest.now ≡ Some (cmp_token c.in-Some.cmp) = cmp_token_at c.in-Some.cmp _ (sym c.kind.ensures ∙ c.in-Some.ensures.found) in c.in_ok-first.ensures n ▸ left_at refl (λ m. behind_cmp c.in_ok-first.first c.in-Some.cmp _ e) (one_found (cmp_token_one c.in-Some.cmp) e c.skip.ensures ▸ c.in_ok-second.ensures n ▸ pure_found)

pub returns-in_err-word : goal.returns-in_err-word
unfolding atom compared missing
returns-in_err-word c = λ n. let e : next c.operand.new.cursor.rest.now ≡ Some (t.Word w.Is) = search rules in passed_on _ c.from_residual-in_err-word.ensures.1 (c.in_ok-first.ensures n ▹ right_fails_at refl (λ m. is_no_cmp c.in_ok-first.first _ e) (left_fails_at refl (λ m. behind_is c.in_ok-first.first _ e) (word_found tt e c.skip-then-sees_word.ensures ▹ first_stuck (c.in_err-word.ensures n) (λ m a. phrase_pure _))))

pub returns-then-sees_word : goal.returns-then-sees_word
unfolding atom compared missing
returns-then-sees_word c = λ n. let e : next c.operand.new.cursor.rest.now ≡ Some (t.Word w.Is) = search rules in c.in_ok-first.ensures n ▸ right_at refl (λ m. is_no_cmp c.in_ok-first.first _ e) (left_at refl (λ m. behind_is c.in_ok-first.first _ e) (word_found tt e c.skip-then-sees_word.ensures ▸ c.in_ok-word.ensures n ▸ pure_found))

pub returns-in-Bool : goal.returns-in-Bool
unfolding atom compared missing
returns-in-Bool c = λ n. let nc : (v : Cmp) → next c.operand.new.cursor.rest.now ≢ Some (cmp_token v) = (λ v. past _ _ (λ x. c.in_default.ensures.none v (c.kind.ensures ∙ x))) in let ni : next c.operand.new.cursor.rest.now ≢ Some (t.Word w.Is) = search rules in c.in_ok-first.ensures n ▸ right_at refl (λ m. compared_other c.in_ok-first.first _ nc) (right_at refl (λ m. missing_other c.in_ok-first.first _ ni) (subst (λ (a : Operand). Finds (λ _. constant a) after_negation n c.operand.new.cursor.rest.now (pred.Constant c.in-Bool.truth) c.operand.new.cursor.rest.now) (sym c.in-Bool.is) pure_found))

pub returns : goal.returns
unfolding atom compared missing
returns c = λ n. let nc : (v : Cmp) → next c.operand.new.cursor.rest.now ≢ Some (cmp_token v) = (λ v. past _ _ (λ x. c.in_default.ensures.none v (c.kind.ensures ∙ x))) in let ni : next c.operand.new.cursor.rest.now ≢ Some (t.Word w.Is) = search rules in c.in_ok-first.ensures n ▹ nothing_at refl (λ m. phrase_left _ _ (search (phrases, operand_has) depth 20)) (λ m. avoids_either _ _ _ _ (compared_other c.in_ok-first.first _ nc) (avoids_either _ _ _ _ (missing_other c.in_ok-first.first _ ni) (not_alone c.in_ok-first.first _ (search rules))))
