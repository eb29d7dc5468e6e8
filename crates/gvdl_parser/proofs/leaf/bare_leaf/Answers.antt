use Rattle.std.proofs.Common.{refl, sym, ap, rules, ℕ, List, Some, ◌≡◌, ◌≢◌, ◌∙◌}
use Rattle.phrase_theory.specs.Reading.{next, alone}
use Rattle.phrase_theory.specs.ChoiceLaws.{left_reads, right_reads, avoids_then, avoids_word, avoids_one, avoids_either}
use Rattle.gvdl_parser.specs.Kinds.{kind_at}
use Rattle.gvdl_parser.specs.Terminals.{opens}
use Rattle.gvdl_parser.proofs.Nexts.{clear_at, clearing, past}
use Rattle.gvdl_parser.specs.Expressions.{number_leaf, nil_leaf, word_leaf, edge_leaf, node_leaf, param_leaf, leaf}
use Rattle.gvdl_parser.proofs.ExpressionLaws.{value_not}
use Rattle.gvdl_tokens.specs.declared.word.Word.TheVariants as w
use Rattle.gvdl_tokens.specs.declared.token.Token.TheVariants as t
use Rattle.gvdl_tokens.specs.declared.token.Kind.TheVariants as kind
use Rattle.gvdl_parser.proofs.leaf.bare_leaf.Goals as goal

pub returns-then-sees_word : goal.returns-then-sees_word
unfolding leaf number_leaf nil_leaf word_leaf edge_leaf node_leaf param_leaf
returns-then-sees_word c = λ n. let e : next c.args.cursor.now.rest.now ≡ Some (t.Word w.None) = search rules in right_reads opens _ _ alone n _ _ _ refl (λ m. clear_at (kind.Word w.None) (sym (ap kind_at e)) (search (clearing, value_not) depth 20)) (left_reads opens _ _ alone n _ _ _ refl (λ m. clear_at (kind.Word w.None) (sym (ap kind_at e)) (search (clearing, value_not) depth 20)) (c.nil_leaf.ensures n))

pub returns-then-sees_word-2 : goal.returns-then-sees_word-2
unfolding leaf number_leaf nil_leaf word_leaf edge_leaf node_leaf param_leaf
returns-then-sees_word-2 c = λ n. let e : next c.args.cursor.now.rest.now ≡ Some (t.Word w.Edge) = search rules in right_reads opens _ _ alone n _ _ _ refl (λ m. clear_at (kind.Word w.Edge) (sym (ap kind_at e)) (search (clearing, value_not) depth 20)) (right_reads opens _ _ alone n _ _ _ refl (λ m. clear_at (kind.Word w.Edge) (sym (ap kind_at e)) (search (clearing, value_not) depth 20)) (right_reads opens _ _ alone n _ _ _ refl (λ m. clear_at (kind.Word w.Edge) (sym (ap kind_at e)) (search (clearing, value_not) depth 20)) (left_reads opens _ _ alone n _ _ _ refl (λ m. clear_at (kind.Word w.Edge) (sym (ap kind_at e)) (search (clearing, value_not) depth 20)) (c.edge_leaf.ensures n))))

pub returns-then-sees_word-3 : goal.returns-then-sees_word-3
unfolding leaf number_leaf nil_leaf word_leaf edge_leaf node_leaf param_leaf
returns-then-sees_word-3 c = λ n. let e : next c.args.cursor.now.rest.now ≡ Some (t.Word w.Node) = search rules in right_reads opens _ _ alone n _ _ _ refl (λ m. clear_at (kind.Word w.Node) (sym (ap kind_at e)) (search (clearing, value_not) depth 20)) (right_reads opens _ _ alone n _ _ _ refl (λ m. clear_at (kind.Word w.Node) (sym (ap kind_at e)) (search (clearing, value_not) depth 20)) (right_reads opens _ _ alone n _ _ _ refl (λ m. clear_at (kind.Word w.Node) (sym (ap kind_at e)) (search (clearing, value_not) depth 20)) (right_reads opens _ _ alone n _ _ _ refl (λ m. clear_at (kind.Word w.Node) (sym (ap kind_at e)) (search (clearing, value_not) depth 20)) (left_reads opens _ _ alone n _ _ _ refl (λ m. clear_at (kind.Word w.Node) (sym (ap kind_at e)) (search (clearing, value_not) depth 20)) (c.node_leaf.ensures n)))))

pub returns-in-Number : goal.returns-in-Number
unfolding leaf number_leaf nil_leaf word_leaf edge_leaf node_leaf param_leaf
returns-in-Number c = λ n. left_reads opens _ _ alone n _ _ _ refl (λ m. clear_at kind.Number c.in-Number.ensures (search (clearing, value_not) depth 20)) (c.number_leaf.ensures n)

pub returns-in-Name : goal.returns-in-Name
unfolding leaf number_leaf nil_leaf word_leaf edge_leaf node_leaf param_leaf
returns-in-Name c = λ n. right_reads opens _ _ alone n _ _ _ refl (λ m. clear_at kind.Name c.in-Name.ensures (search (clearing, value_not) depth 20)) (right_reads opens _ _ alone n _ _ _ refl (λ m. clear_at kind.Name c.in-Name.ensures (search (clearing, value_not) depth 20)) (right_reads opens _ _ alone n _ _ _ refl (λ m. clear_at kind.Name c.in-Name.ensures (search (clearing, value_not) depth 20)) (right_reads opens _ _ alone n _ _ _ refl (λ m. clear_at kind.Name c.in-Name.ensures (search (clearing, value_not) depth 20)) (right_reads opens _ _ alone n _ _ _ refl (λ m. clear_at kind.Name c.in-Name.ensures (search (clearing, value_not) depth 20)) (c.param_leaf.ensures n)))))

pub returns-in_default : goal.returns-in_default
unfolding leaf number_leaf nil_leaf word_leaf edge_leaf node_leaf param_leaf
returns-in_default c = λ n. let n0 : next c.args.cursor.now.rest.now ≢ Some (t.Word w.None) = search rules in let n1 : next c.args.cursor.now.rest.now ≢ Some (t.Word w.Edge) = search rules in let n2 : next c.args.cursor.now.rest.now ≢ Some (t.Word w.Node) = search rules in let nn : (v : ℕ) → next c.args.cursor.now.rest.now ≢ Some (t.Number v) = (λ v. past _ _ (λ x. c.in_default.not-Number (c.kind.ensures ∙ x))) in let ns : (v : List ℕ) → next c.args.cursor.now.rest.now ≢ Some (t.Name v) = (λ v. past _ _ (λ x. c.in_default.not-Name (c.kind.ensures ∙ x))) in right_reads opens _ _ alone n _ _ _ refl (λ m. search (avoids_word, avoids_one, avoids_then, avoids_either, n0, n1, n2, nn, ns) depth 20) (right_reads opens _ _ alone n _ _ _ refl (λ m. search (avoids_word, avoids_one, avoids_then, avoids_either, n0, n1, n2, nn, ns) depth 20) (left_reads opens _ _ alone n _ _ _ refl (λ m. search (avoids_word, avoids_one, avoids_then, avoids_either, n0, n1, n2, nn, ns) depth 20) (c.word_leaf.ensures n)))
