use Rattle.std.proofs.Common.{refl, sym, ap, rules, Some, ◌≡◌, ◌≢◌}
use Rattle.phrase_theory.specs.Reading.{next, alone}
use Rattle.phrase_theory.specs.ChoiceLaws.{left_reads, right_reads, avoids_then, avoids_word, avoids_one, avoids_either}
use Rattle.gvdl_parser.specs.Kinds.{kind_at}
use Rattle.gvdl_parser.specs.Terminals.{opens}
use Rattle.gvdl_parser.proofs.Nexts.{clear_at, clearing}
use Rattle.gvdl_parser.specs.Statements.{behind, insert, remove, aggregate, second_form}
use Rattle.gvdl_tokens.specs.declared.word.Word.TheVariants as w
use Rattle.gvdl_tokens.specs.declared.token.Token.TheVariants as t
use Rattle.gvdl_tokens.specs.declared.token.Kind.TheVariants as kind
use Rattle.gvdl_parser.proofs.script.second_form.Goals as goal

pub returns-then-sees_word : goal.returns-then-sees_word
unfolding second_form insert remove aggregate behind
returns-then-sees_word c = let e : next c.args.cursor.now.rest.now ≡ Some (t.Word w.Insert) = search rules in left_reads opens _ _ alone c.args.levels _ _ _ refl (λ m. clear_at (kind.Word w.Insert) (sym (ap kind_at e)) (search clearing depth 20)) (c.insert.ensures c.args.levels)

pub returns-then-sees_word-2 : goal.returns-then-sees_word-2
unfolding second_form insert remove aggregate behind
returns-then-sees_word-2 c = let e : next c.args.cursor.now.rest.now ≡ Some (t.Word w.Remove) = search rules in right_reads opens _ _ alone c.args.levels _ _ _ refl (λ m. clear_at (kind.Word w.Remove) (sym (ap kind_at e)) (search clearing depth 20)) (left_reads opens _ _ alone c.args.levels _ _ _ refl (λ m. clear_at (kind.Word w.Remove) (sym (ap kind_at e)) (search clearing depth 20)) (c.remove.ensures))

pub returns : goal.returns
unfolding second_form insert remove aggregate behind
returns c = let n0 : next c.args.cursor.now.rest.now ≢ Some (t.Word w.Insert) = search rules in let n1 : next c.args.cursor.now.rest.now ≢ Some (t.Word w.Remove) = search rules in right_reads opens _ _ alone c.args.levels _ _ _ refl (λ m. search (avoids_word, avoids_one, avoids_then, avoids_either, n0, n1) depth 20) (right_reads opens _ _ alone c.args.levels _ _ _ refl (λ m. search (avoids_word, avoids_one, avoids_then, avoids_either, n0, n1) depth 20) (c.aggregate.ensures c.args.levels))
