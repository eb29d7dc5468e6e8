use Rattle.std.proofs.Common.{refl, ℕ, List, Some, ◌≢◌, ◌∙◌}
use Rattle.phrase_theory.specs.Reading.{next, alone}
use Rattle.phrase_theory.specs.ChoiceLaws.{left_reads, right_reads, avoids_then, avoids_word, avoids_one, avoids_either}
use Rattle.gvdl_parser.specs.Terminals.{opens, int, prop}
use Rattle.gvdl_parser.proofs.Nexts.{clear_at, clearing, past}
use Rattle.gvdl_parser.specs.Statements.{number_arg, prop_arg, arg_phrase}
use Rattle.gvdl_tokens.specs.declared.token.Token.TheVariants as t
use Rattle.gvdl_tokens.specs.declared.token.Kind.TheVariants as kind
use Rattle.gvdl_parser.proofs.call.arg.Goals as goal

pub returns-in-Name : goal.returns-in-Name
unfolding arg_phrase number_arg prop_arg int prop
returns-in-Name c = λ n. right_reads opens _ _ alone n _ _ _ refl (λ m. clear_at kind.Name c.in-Name.ensures (search clearing depth 12)) (c.prop_arg.ensures n)

pub returns-in-Quoted : goal.returns-in-Quoted
unfolding arg_phrase number_arg prop_arg int prop
returns-in-Quoted c = λ n. right_reads opens _ _ alone n _ _ _ refl (λ m. clear_at kind.Quoted c.in-Quoted.ensures (search clearing depth 12)) (c.prop_arg-in-Quoted.ensures n)

pub returns-in_default : goal.returns-in_default
unfolding arg_phrase number_arg prop_arg int prop
returns-in_default c = λ n. let na : (v : List ℕ) → next c.args.cursor.now.rest.now ≢ Some (t.Name v) = (λ v. past _ _ (λ x. c.in_default.not-Name (c.kind.ensures ∙ x))) in let nq : (v : List ℕ) → next c.args.cursor.now.rest.now ≢ Some (t.Quoted v) = (λ v. past _ _ (λ x. c.in_default.not-Quoted (c.kind.ensures ∙ x))) in left_reads opens _ _ alone n _ _ _ refl (λ m. search (avoids_word, avoids_one, avoids_then, avoids_either, na, nq) depth 12) (c.number_arg.ensures n)
