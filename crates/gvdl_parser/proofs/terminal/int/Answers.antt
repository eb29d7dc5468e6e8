use Rattle.std.proofs.Common.{arith, subst, ℤ, pos, neg_ℤ, ◌≡◌, ◌≢◌, sym, ap, refl, rules, Some}
use Rattle.gvdl_tokens.specs.declared.token.Token.TheVariants as t
use Rattle.gvdl_tokens.specs.declared.token.Kind.TheVariants as kind
use Rattle.gvdl_tokens.specs.declared.token.Sign.TheVariants as s
use Rattle.std.proofs.lemmas.Int.{ints, to_z-of_z}
use mir.Val.{to_z, of_z}
use mir.Syntax.{w64}
use Rattle.phrase_theory.specs.Reading.{next, alone, Finds}
use Rattle.phrase_theory.specs.SequenceLaws.{passed_on, first_stuck, ◌▹◌, ◌▸◌, pure_found, word_found}
use Rattle.phrase_theory.specs.ChoiceLaws.{left_at, right_at, left_fails_at, right_fails_at, avoids_then, avoids_word}
use Rattle.gvdl_parser.specs.Kinds.{kind_at}
use Rattle.gvdl_parser.specs.Terminals.{int}
use Rattle.gvdl_parser.proofs.Nexts.{clear_at, clearing}
use Rattle.gvdl_parser.proofs.Having.{phrases}
use Rattle.gvdl_parser.proofs.terminal.int.Goals as goal

pub returns-in_err-number : goal.returns-in_err-number
unfolding int
returns-in_err-number c = λ n. let e : next c.args.cursor.now.rest.now ≡ Some (t.Sign s.Minus) = search rules in
    passed_on _ c.from_residual.ensures.1 (right_fails_at refl (λ m. clear_at (kind.Sign s.Minus) (sym (ap kind_at e)) (search clearing)) (word_found tt e c.skip.ensures ▹ first_stuck (c.in_err-number.ensures.read n) (λ m a. search phrases)))

pub returns-then-sees_sign : goal.returns-then-sees_sign
unfolding int
returns-then-sees_sign c = λ n. let e : next c.args.cursor.now.rest.now ≡ Some (t.Sign s.Minus) = search rules in
    let k : to_z w64 (of_z w64 c.negative.result) ≡ neg_ℤ (pos c.in_ok-number.number) = grind (arith, ints, to_z-of_z, c.negative.ensures) in
    subst (λ (z : ℤ). Finds (λ _. int) alone n c.args.cursor.now.rest.now z c.number.new.self.rest.now) (sym k) (right_at refl (λ m. clear_at (kind.Sign s.Minus) (sym (ap kind_at e)) (search clearing)) (word_found tt e c.skip.ensures ▸ c.in_ok-number.ensures.read n ▸ pure_found))

pub returns-in_err-number-2 : goal.returns-in_err-number-2
unfolding int
returns-in_err-number-2 c = λ n. let past : next c.args.cursor.now.rest.now ≢ Some (t.Sign s.Minus) = search rules in
    passed_on _ c.from_residual-in_err-number-2.ensures.1 (left_fails_at refl (λ m. avoids_then _ _ _ _ (avoids_word _ _ _ past)) (first_stuck (c.in_err-number-2.ensures.read n) (λ m a. search phrases)))

pub returns : goal.returns
unfolding int
returns c = λ n. let past : next c.args.cursor.now.rest.now ≢ Some (t.Sign s.Minus) = search rules in
    let k : to_z w64 (of_z w64 c.positive.result) ≡ pos c.in_ok-number-2.number = grind (arith, ints, to_z-of_z, c.positive.ensures) in
    subst (λ (z : ℤ). Finds (λ _. int) alone n c.args.cursor.now.rest.now z c.number-2.new.self.rest.now) (sym k) (left_at refl (λ m. avoids_then _ _ _ _ (avoids_word _ _ _ past)) (c.in_ok-number-2.ensures.read n ▸ pure_found))
