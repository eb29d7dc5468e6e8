use Rattle.std.proofs.Common.{refl, sym, ap, rules, Some, ◌≡◌, ◌≢◌}
use Rattle.phrase_theory.specs.Reading.{next}
use Rattle.phrase_theory.specs.SequenceLaws.{passed_on, first_stuck, ◌▸◌, pure_found, word_found}
use Rattle.phrase_theory.specs.ChoiceLaws.{left_at, right_at, right_fails_at, avoids_then, avoids_word}
use Rattle.gvdl_parser.specs.Kinds.{kind_at}
use Rattle.gvdl_parser.specs.Terminals.{prop}
use Rattle.gvdl_parser.proofs.Nexts.{clear_at, clearing}
use Rattle.gvdl_parser.specs.Predicates.{field_phrase}
use Rattle.gvdl_parser.proofs.Having.{phrases, int_has, prop_has, field_has, operand_has, negation_has, predicate_has}
use Rattle.gvdl_tokens.specs.declared.word.Word.TheVariants as w
use Rattle.gvdl_tokens.specs.declared.token.Token.TheVariants as t
use Rattle.gvdl_tokens.specs.declared.token.Kind.TheVariants as kind
use Rattle.gvdl_parser.proofs.predicate.field.Goals as goal

pub returns-then-sees_word : goal.returns-then-sees_word
unfolding field_phrase prop
returns-then-sees_word c = λ n. let e : next c.args.cursor.now.rest.now ≡ Some (t.Word w.Id) = search rules in left_at refl (λ m. clear_at (kind.Word w.Id) (sym (ap kind_at e)) (search clearing depth 12)) (word_found tt e c.skip.ensures ▸ pure_found)

pub returns-in_err-property : goal.returns-in_err-property
unfolding field_phrase prop
returns-in_err-property c = λ n. let e : next c.args.cursor.now.rest.now ≢ Some (t.Word w.Id) = search rules in passed_on _ c.from_residual.ensures.1 (right_fails_at refl (λ m. avoids_then _ _ _ _ (avoids_word _ _ _ e)) (first_stuck (c.in_err-property.ensures n) (λ m a. search (phrases, int_has, prop_has, field_has, operand_has, negation_has, predicate_has) depth 20)))

pub returns : goal.returns
unfolding field_phrase prop
returns c = λ n. let e : next c.args.cursor.now.rest.now ≢ Some (t.Word w.Id) = search rules in right_at refl (λ m. avoids_then _ _ _ _ (avoids_word _ _ _ e)) (c.in_ok-property.ensures n ▸ pure_found)
