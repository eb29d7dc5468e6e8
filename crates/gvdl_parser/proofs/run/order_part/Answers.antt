use Rattle.std.proofs.Common.{ap, rules, Some, ◌≡◌, ◌≢◌}
use Rattle.phrase_theory.specs.Reading.{next, alone}
use Rattle.phrase_theory.specs.SequenceLaws.{passed_on, first_stuck, ◌▹◌, ◌▸◌, pure_found, word_found, phrase_pure}
use Rattle.phrase_theory.specs.ChoiceLaws.{avoids_then, avoids_word}
use Rattle.phrase_theory.specs.OptionalLaws.{optional_absent, optional_found, optional_fails}
use Rattle.gvdl_parser.specs.Statements.{behind, order_part, after_order}
use Rattle.gvdl_tokens.specs.declared.word.Word.TheVariants as w
use Rattle.gvdl_tokens.specs.declared.token.Token.TheVariants as t
use Rattle.gvdl_parser.proofs.run.order_part.Goals as goal

pub returns-then-not-sees_word : goal.returns-then-not-sees_word
unfolding order_part behind
returns-then-not-sees_word c = λ n. let n0 : next c.args.cursor.now.rest.now ≢ Some (t.Word w.Order) = search rules in optional_absent (λ m. avoids_then _ _ _ alone (avoids_word _ _ alone n0))

pub returns-in_err-order : goal.returns-in_err-order
unfolding order_part behind
returns-in_err-order c = λ n. let e : next c.args.cursor.now.rest.now ≡ Some (t.Word w.Order) = search rules in passed_on _ c.from_residual.ensures.1 (optional_fails (ap after_order e) (word_found tt e c.skip.ensures ▹ first_stuck (c.in_err-order.ensures n) (λ m a. phrase_pure _)))

pub returns : goal.returns
unfolding order_part behind
returns c = λ n. let e : next c.args.cursor.now.rest.now ≡ Some (t.Word w.Order) = search rules in optional_found (ap after_order e) (word_found tt e c.skip.ensures ▸ c.in_ok-order.ensures n ▸ pure_found)
