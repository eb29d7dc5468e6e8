use Rattle.std.proofs.Common.{refl, sym, ap, rules, ℕ, List, Some, ◌≡◌, ◌≢◌, ◌∙◌}
use Rattle.phrase_theory.specs.Reading.{next, alone}
use Rattle.phrase_theory.specs.ChoiceLaws.{left_reads, right_reads, avoids_then, avoids_word, avoids_one, avoids_either}
use Rattle.gvdl_parser.specs.Kinds.{kind_at}
use Rattle.gvdl_parser.specs.Terminals.{opens, int, prop}
use Rattle.gvdl_parser.proofs.Nexts.{clear_at, clearing, past}
use Rattle.gvdl_parser.specs.Predicates.{number_operand, text_operand, truth_operand, source_operand, target_operand, edge_operand, operand_phrase}
use Rattle.gvdl_parser.proofs.PredicateLaws.{clear_truth, no_truth}
use Rattle.gvdl_tokens.specs.declared.word.Word.TheVariants as w
use Rattle.gvdl_tokens.specs.declared.token.Sign.TheVariants as s
use Rattle.gvdl_tokens.specs.declared.token.Token.TheVariants as t
use Rattle.gvdl_tokens.specs.declared.token.Kind.TheVariants as kind
use Rattle.gvdl_parser.proofs.predicate.operand.Goals as goal

pub returns-then-sees_word : goal.returns-then-sees_word
unfolding operand_phrase number_operand text_operand truth_operand source_operand target_operand edge_operand int prop
returns-then-sees_word c = λ n. let e : next c.args.cursor.now.rest.now ≡ Some (t.Word w.Src) = search rules in right_reads opens _ _ alone n _ _ _ refl (λ m. clear_at (kind.Word w.Src) (sym (ap kind_at e)) (search (clearing, clear_truth) depth 20)) (right_reads opens _ _ alone n _ _ _ refl (λ m. clear_at (kind.Word w.Src) (sym (ap kind_at e)) (search (clearing, clear_truth) depth 20)) (right_reads opens _ _ alone n _ _ _ refl (λ m. clear_at (kind.Word w.Src) (sym (ap kind_at e)) (search (clearing, clear_truth) depth 20)) (left_reads opens _ _ alone n _ _ _ refl (λ m. clear_at (kind.Word w.Src) (sym (ap kind_at e)) (search (clearing, clear_truth) depth 20)) (c.source_operand.ensures n))))

pub returns-then-sees_word-2 : goal.returns-then-sees_word-2
unfolding operand_phrase number_operand text_operand truth_operand source_operand target_operand edge_operand int prop
returns-then-sees_word-2 c = λ n. let e : next c.args.cursor.now.rest.now ≡ Some (t.Word w.Dst) = search rules in right_reads opens _ _ alone n _ _ _ refl (λ m. clear_at (kind.Word w.Dst) (sym (ap kind_at e)) (search (clearing, clear_truth) depth 20)) (right_reads opens _ _ alone n _ _ _ refl (λ m. clear_at (kind.Word w.Dst) (sym (ap kind_at e)) (search (clearing, clear_truth) depth 20)) (right_reads opens _ _ alone n _ _ _ refl (λ m. clear_at (kind.Word w.Dst) (sym (ap kind_at e)) (search (clearing, clear_truth) depth 20)) (right_reads opens _ _ alone n _ _ _ refl (λ m. clear_at (kind.Word w.Dst) (sym (ap kind_at e)) (search (clearing, clear_truth) depth 20)) (left_reads opens _ _ alone n _ _ _ refl (λ m. clear_at (kind.Word w.Dst) (sym (ap kind_at e)) (search (clearing, clear_truth) depth 20)) (c.target_operand.ensures n)))))

pub returns-then-sees_word-3 : goal.returns-then-sees_word-3
unfolding operand_phrase number_operand text_operand truth_operand source_operand target_operand edge_operand int prop
returns-then-sees_word-3 c = λ n. let e : next c.args.cursor.now.rest.now ≡ Some (t.Word w.True) = search rules in right_reads opens _ _ alone n _ _ _ refl (λ m. clear_at (kind.Word w.True) (sym (ap kind_at e)) (search (clearing, clear_truth) depth 20)) (right_reads opens _ _ alone n _ _ _ refl (λ m. clear_at (kind.Word w.True) (sym (ap kind_at e)) (search (clearing, clear_truth) depth 20)) (left_reads opens _ _ alone n _ _ _ refl (λ m. clear_at (kind.Word w.True) (sym (ap kind_at e)) (search (clearing, clear_truth) depth 20)) (c.truth_operand.ensures n)))

pub returns-then-sees_word-4 : goal.returns-then-sees_word-4
unfolding operand_phrase number_operand text_operand truth_operand source_operand target_operand edge_operand int prop
returns-then-sees_word-4 c = λ n. let e : next c.args.cursor.now.rest.now ≡ Some (t.Word w.False) = search rules in right_reads opens _ _ alone n _ _ _ refl (λ m. clear_at (kind.Word w.False) (sym (ap kind_at e)) (search (clearing, clear_truth) depth 20)) (right_reads opens _ _ alone n _ _ _ refl (λ m. clear_at (kind.Word w.False) (sym (ap kind_at e)) (search (clearing, clear_truth) depth 20)) (left_reads opens _ _ alone n _ _ _ refl (λ m. clear_at (kind.Word w.False) (sym (ap kind_at e)) (search (clearing, clear_truth) depth 20)) (c.truth_operand-then-sees_word-4.ensures n)))

pub returns-then-sees_sign : goal.returns-then-sees_sign
unfolding operand_phrase number_operand text_operand truth_operand source_operand target_operand edge_operand int prop
returns-then-sees_sign c = λ n. let e : next c.args.cursor.now.rest.now ≡ Some (t.Sign s.Minus) = search rules in left_reads opens _ _ alone n _ _ _ refl (λ m. clear_at (kind.Sign s.Minus) (sym (ap kind_at e)) (search (clearing, clear_truth) depth 20)) (c.number_operand.ensures n)

pub returns-in-Number : goal.returns-in-Number
unfolding operand_phrase number_operand text_operand truth_operand source_operand target_operand edge_operand int prop
returns-in-Number c = λ n. left_reads opens _ _ alone n _ _ _ refl (λ m. clear_at kind.Number c.in-Number.ensures (search (clearing, clear_truth) depth 20)) (c.number_operand-in-Number.ensures n)

pub returns-in-Str : goal.returns-in-Str
unfolding operand_phrase number_operand text_operand truth_operand source_operand target_operand edge_operand int prop
returns-in-Str c = λ n. right_reads opens _ _ alone n _ _ _ refl (λ m. clear_at kind.Str c.in-Str.ensures (search (clearing, clear_truth) depth 20)) (left_reads opens _ _ alone n _ _ _ refl (λ m. clear_at kind.Str c.in-Str.ensures (search (clearing, clear_truth) depth 20)) (c.text_operand.ensures n))

pub returns-in_default : goal.returns-in_default
unfolding operand_phrase number_operand text_operand truth_operand source_operand target_operand edge_operand int prop
returns-in_default c = λ n. let n0 : next c.args.cursor.now.rest.now ≢ Some (t.Word w.Src) = search rules in let n1 : next c.args.cursor.now.rest.now ≢ Some (t.Word w.Dst) = search rules in let n2 : next c.args.cursor.now.rest.now ≢ Some (t.Word w.True) = search rules in let n3 : next c.args.cursor.now.rest.now ≢ Some (t.Word w.False) = search rules in let n4 : next c.args.cursor.now.rest.now ≢ Some (t.Sign s.Minus) = search rules in let nn : (v : ℕ) → next c.args.cursor.now.rest.now ≢ Some (t.Number v) = (λ v. past _ _ (λ x. c.in_default.not-Number (c.kind.ensures ∙ x))) in let ns : (v : List ℕ) → next c.args.cursor.now.rest.now ≢ Some (t.Str v) = (λ v. past _ _ (λ x. c.in_default.not-Str (c.kind.ensures ∙ x))) in right_reads opens _ _ alone n _ _ _ refl (λ m. search (avoids_word, avoids_one, avoids_then, avoids_either, no_truth, n0, n1, n2, n3, n4, nn, ns) depth 20) (right_reads opens _ _ alone n _ _ _ refl (λ m. search (avoids_word, avoids_one, avoids_then, avoids_either, no_truth, n0, n1, n2, n3, n4, nn, ns) depth 20) (right_reads opens _ _ alone n _ _ _ refl (λ m. search (avoids_word, avoids_one, avoids_then, avoids_either, no_truth, n0, n1, n2, n3, n4, nn, ns) depth 20) (right_reads opens _ _ alone n _ _ _ refl (λ m. search (avoids_word, avoids_one, avoids_then, avoids_either, no_truth, n0, n1, n2, n3, n4, nn, ns) depth 20) (right_reads opens _ _ alone n _ _ _ refl (λ m. search (avoids_word, avoids_one, avoids_then, avoids_either, no_truth, n0, n1, n2, n3, n4, nn, ns) depth 20) (c.edge_operand.ensures n)))))
