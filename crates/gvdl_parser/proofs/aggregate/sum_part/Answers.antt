use Rattle.std.proofs.Common.{ap, rules, Some, ◌≡◌, ◌≢◌}
use Rattle.phrase_theory.specs.Reading.{next, alone}
use Rattle.phrase_theory.specs.SequenceLaws.{passed_on, first_stuck, ◌▹◌, ◌▸◌, pure_found, word_found, phrase_pure}
use Rattle.phrase_theory.specs.ChoiceLaws.{avoids_then, avoids_word}
use Rattle.phrase_theory.specs.OptionalLaws.{optional_absent, optional_found, optional_fails}
use Rattle.gvdl_parser.specs.Statements.{behind, sum_part, after_summed}
use Rattle.gvdl_tokens.specs.declared.word.Word.TheVariants as w
use Rattle.gvdl_tokens.specs.declared.token.Token.TheVariants as t
use Rattle.gvdl_parser.proofs.aggregate.sum_part.Goals as goal

pub returns-then-not-sees_word : goal.returns-then-not-sees_word
unfolding sum_part behind
returns-then-not-sees_word c = λ n. let n0 : next c.args.cursor.now.rest.now ≢ Some (t.Word w.Sum) = search rules in optional_absent (λ m. avoids_then _ _ _ alone (avoids_word _ _ alone n0))

pub returns-in_err-property : goal.returns-in_err-property
unfolding sum_part behind
returns-in_err-property c = λ n. let e : next c.args.cursor.now.rest.now ≡ Some (t.Word w.Sum) = search rules in passed_on _ c.from_residual.ensures.1 (optional_fails (ap after_summed e) (word_found tt e c.skip.ensures ▹ first_stuck (c.in_err-property.ensures n) (λ m a. phrase_pure _)))

pub returns : goal.returns
unfolding sum_part behind
returns c = λ n. let e : next c.args.cursor.now.rest.now ≡ Some (t.Word w.Sum) = search rules in optional_found (ap after_summed e) (word_found tt e c.skip.ensures ▸ c.in_ok-property.ensures n ▸ pure_found)
