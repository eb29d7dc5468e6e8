use Rattle.std.proofs.Common.{refl, sym, ap, rules, Some, ◌≡◌, ◌≢◌}
use Rattle.phrase_theory.specs.Reading.{next, alone}
use Rattle.phrase_theory.specs.ChoiceLaws.{left_reads, right_reads, avoids_then, avoids_word}
use Rattle.gvdl_parser.specs.Kinds.{kind_at}
use Rattle.gvdl_parser.specs.Terminals.{opens}
use Rattle.gvdl_parser.proofs.Nexts.{clear_at, clearing}
use Rattle.gvdl_parser.specs.Statements.{part, show_order, show_work, show_tree, shown}
use Rattle.gvdl_tokens.specs.declared.word.Word.TheVariants as w
use Rattle.gvdl_tokens.specs.declared.token.Token.TheVariants as t
use Rattle.gvdl_tokens.specs.declared.token.Kind.TheVariants as kind
use Rattle.gvdl_parser.proofs.run.shown.Goals as goal

pub returns-then-sees_word : goal.returns-then-sees_word
unfolding shown show_order show_work show_tree part
returns-then-sees_word c = λ n. let e : next c.args.cursor.now.rest.now ≡ Some (t.Word w.Order) = search rules in left_reads opens _ _ alone n _ _ _ refl (λ m. clear_at (kind.Word w.Order) (sym (ap kind_at e)) (search clearing depth 12)) (c.show_order.ensures n)

pub returns-then-sees_word-2 : goal.returns-then-sees_word-2
unfolding shown show_order show_work show_tree part
returns-then-sees_word-2 c = λ n. let e : next c.args.cursor.now.rest.now ≡ Some (t.Word w.Work) = search rules in right_reads opens _ _ alone n _ _ _ refl (λ m. clear_at (kind.Word w.Work) (sym (ap kind_at e)) (search clearing depth 12)) (left_reads opens _ _ alone n _ _ _ refl (λ m. clear_at (kind.Word w.Work) (sym (ap kind_at e)) (search clearing depth 12)) (c.show_work.ensures n))

pub returns : goal.returns
unfolding shown show_order show_work show_tree part
returns c = λ n. let n0 : next c.args.cursor.now.rest.now ≢ Some (t.Word w.Order) = search rules in let n1 : next c.args.cursor.now.rest.now ≢ Some (t.Word w.Work) = search rules in right_reads opens _ _ alone n _ _ _ refl (λ m. avoids_then _ _ _ alone (avoids_then _ _ _ alone (avoids_word _ _ alone n0)))
    (right_reads opens _ _ alone n _ _ _ refl (λ m. avoids_then _ _ _ alone (avoids_then _ _ _ alone (avoids_word _ _ alone n1))) (c.show_tree.ensures n))
