use Rattle.std.proofs.Common.{refl, ap, rules, Some, ◌≡◌, ◌≢◌}
use Rattle.phrase_theory.specs.Reading.{next, alone}
use Rattle.phrase_theory.specs.SequenceLaws.{passed_on, first_stuck, ◌▹◌, ◌▸◌, pure_found, word_found, phrase_pure}
use Rattle.phrase_theory.specs.ChoiceLaws.{left_at, right_at, left_fails_at, avoids_then, avoids_word, avoids_pure}
use Rattle.gvdl_parser.specs.Statements.{parentheses, listed, after_listed}
use Rattle.gvdl_tokens.specs.declared.token.Sign.TheVariants as s
use Rattle.gvdl_tokens.specs.declared.token.Token.TheVariants as t
use Rattle.gvdl_parser.proofs.call.params.Goals as goal

pub returns-then-not-sees_sign : goal.returns-then-not-sees_sign
unfolding listed parentheses
returns-then-not-sees_sign c = λ n. let n0 : next c.args.cursor.now.rest.now ≢ Some (t.Sign s.Open) = search rules in rw c.new.ensures (right_at refl (λ m. avoids_then _ _ _ after_listed (avoids_word _ _ alone n0)) pure_found)

pub returns-in_err-members : goal.returns-in_err-members
unfolding listed parentheses
returns-in_err-members c = λ n. let e : next c.args.cursor.now.rest.now ≡ Some (t.Sign s.Open) = search rules in passed_on _ c.from_residual.ensures.1 (left_fails_at refl (λ m. avoids_pure _ _ after_listed (ap after_listed e)) (word_found tt e c.skip.ensures ▹ first_stuck (c.in_err-members.ensures n) (λ m a. phrase_pure _)))

pub returns : goal.returns
unfolding listed parentheses
returns c = λ n. let e : next c.args.cursor.now.rest.now ≡ Some (t.Sign s.Open) = search rules in left_at refl (λ m. avoids_pure _ _ after_listed (ap after_listed e)) (word_found tt e c.skip.ensures ▸ c.in_ok-members.ensures n ▸ pure_found)
