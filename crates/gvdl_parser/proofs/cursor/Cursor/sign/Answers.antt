use Rattle.std.proofs.Common.{◌≢◌, rules, Some}
use Rattle.gvdl_tokens.specs.declared.token.Token.TheVariants as t
use Rattle.phrase_theory.specs.Reading.{next}
use Rattle.phrase_theory.specs.SequenceLaws.{word_missing}
use Rattle.gvdl_parser.proofs.cursor.Cursor.sign.Goals as goal

pub returns-then-not-sees_sign : goal.returns-then-not-sees_sign
returns-then-not-sees_sign c = λ n. let other : next c.args.self.now.rest.now ≢ Some (t.Sign c.args.expected) = search rules in word_missing _ c.args.self.now.rest.now n other
