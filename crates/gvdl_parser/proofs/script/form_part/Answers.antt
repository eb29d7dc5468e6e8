use Rattle.std.proofs.Common.{ap, rules, Some, ◌≡◌, ◌≢◌}
use Rattle.phrase_theory.specs.Reading.{next, alone}
use Rattle.phrase_theory.specs.SequenceLaws.{passed_on}
use Rattle.phrase_theory.specs.ChoiceLaws.{avoids_then, avoids_word}
use Rattle.phrase_theory.specs.OptionalLaws.{optional_absent, optional_found, optional_fails}
use Rattle.gvdl_parser.specs.Statements.{part, form_part, after_form}
use Rattle.gvdl_tokens.specs.declared.word.Word.TheVariants as w
use Rattle.gvdl_tokens.specs.declared.token.Token.TheVariants as t
use Rattle.gvdl_parser.proofs.script.form_part.Goals as goal

pub returns-then-not-sees_word : goal.returns-then-not-sees_word
unfolding form_part part
returns-then-not-sees_word c = λ n. let n0 : next c.args.cursor.now.rest.now ≢ Some (t.Word w.Form) = search rules in optional_absent (λ m. avoids_then _ _ _ alone (avoids_word _ _ alone n0))

pub returns-in_err-number : goal.returns-in_err-number
unfolding form_part
returns-in_err-number c = λ n. let e : next c.args.cursor.now.rest.now ≡ Some (t.Word w.Form) = search rules in passed_on _ c.from_residual.ensures.1 (optional_fails (ap after_form e) (c.in_err-number.ensures n))

pub returns : goal.returns
unfolding form_part
returns c = λ n. let e : next c.args.cursor.now.rest.now ≡ Some (t.Word w.Form) = search rules in optional_found (ap after_form e) (c.in_ok-number.ensures n)
