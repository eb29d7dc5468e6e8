use Rattle.std.proofs.Common.{refl, rules, Some, ◌≡◌, ◌≢◌}
use Rattle.phrase_theory.specs.Reading.{next, alone}
use Rattle.phrase_theory.specs.SequenceLaws.{passed_on, first_stuck, ◌▸◌, pure_found, word_found, stuck_before, fails_before, found_before}
use Rattle.phrase_theory.specs.ChoiceLaws.{left_at, right_at, right_fails_at, avoids_then, avoids_word}
use Rattle.gvdl_parser.specs.Statements.{listed_behind}
use Rattle.gvdl_parser.proofs.StatementLaws.{statement_phrases, name_no_close}
use Rattle.gvdl_tokens.specs.declared.token.Sign.TheVariants as s
use Rattle.gvdl_tokens.specs.declared.token.Token.TheVariants as t
use Rattle.gvdl_parser.proofs.call.names_behind.Goals as goal

pub returns-then-sees_sign : goal.returns-then-sees_sign
unfolding listed_behind
returns-then-sees_sign c = λ n. let e : next c.args.cursor.now.rest.now ≡ Some (t.Sign s.Close) = search rules in rw c.new.ensures (left_at refl (λ m. name_no_close _ e) (word_found tt e c.skip.ensures ▸ pure_found))

pub returns-in_err-members : goal.returns-in_err-members
unfolding listed_behind
returns-in_err-members c = λ n. let n0 : next c.args.cursor.now.rest.now ≢ Some (t.Sign s.Close) = search rules in passed_on _ c.from_residual.ensures.1 (right_fails_at refl (λ m. avoids_then _ _ _ alone (avoids_word _ _ alone n0)) (stuck_before refl (c.in_err-members.ensures n) (λ m a. search statement_phrases depth 40)))

pub returns-in_err-sign : goal.returns-in_err-sign
unfolding listed_behind
returns-in_err-sign c = λ n. let n0 : next c.args.cursor.now.rest.now ≢ Some (t.Sign s.Close) = search rules in passed_on _ c.from_residual-in_err-sign.ensures.1 (right_fails_at refl (λ m. avoids_then _ _ _ alone (avoids_word _ _ alone n0)) (fails_before refl (λ n us a p. p) (c.in_ok-members.ensures n) (first_stuck (c.in_err-sign.ensures n) (λ m a. search statement_phrases depth 40))))

pub returns : goal.returns
unfolding listed_behind
returns c = λ n. let n0 : next c.args.cursor.now.rest.now ≢ Some (t.Sign s.Close) = search rules in right_at refl (λ m. avoids_then _ _ _ alone (avoids_word _ _ alone n0)) (found_before refl (c.in_ok-members.ensures n) (c.in_ok-sign.ensures n ▸ pure_found))
