use Rattle.std.proofs.Common.{◌≢◌, rules, Some}
use Rattle.gvdl_tokens.specs.declared.token.Token.TheVariants as t
use Rattle.phrase_theory.specs.Reading.{next}
use Rattle.phrase_theory.specs.SequenceLaws.{word_missing}
use Rattle.gvdl_parser.proofs.cursor.Cursor.word.Goals as goal

pub returns-then-not-sees_word : goal.returns-then-not-sees_word
returns-then-not-sees_word c = λ n. let other : next c.args.self.now.rest.now ≢ Some (t.Word c.args.expected) = search rules in word_missing _ c.args.self.now.rest.now n other
