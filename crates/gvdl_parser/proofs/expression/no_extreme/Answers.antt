use Rattle.std.proofs.Common.{rules, Some, ◌≡◌, ◌≢◌}
use Rattle.phrase_theory.specs.Reading.{next}
use Rattle.gvdl_parser.proofs.ExpressionLaws.{extreme_sunk, extreme_stuck}
use Rattle.gvdl_tokens.specs.declared.token.Sign.TheVariants as s
use Rattle.gvdl_tokens.specs.declared.token.Token.TheVariants as t
use Rattle.gvdl_parser.proofs.expression.no_extreme.Goals as goal

pub returns-then-sees_sign : goal.returns-then-sees_sign
returns-then-sees_sign c = let o : next c.skip.new.self.rest.now ≡ Some (t.Sign s.Open) = search rules in extreme_sunk c.args.greatest c.args.cursor.now.rest.now c.skip.new.self.rest.now c.requires c.skip.ensures o

pub returns : goal.returns
returns c = let o : next c.skip.new.self.rest.now ≢ Some (t.Sign s.Open) = search rules in extreme_stuck c.args.greatest c.args.cursor.now.rest.now c.skip.new.self.rest.now c.requires c.skip.ensures o
