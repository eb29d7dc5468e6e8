use Rattle.std.proofs.Common.{refl, sym, ap, rules, Some, ◌≡◌, ◌≢◌}
use Rattle.phrase_theory.specs.Reading.{next, alone}
use Rattle.phrase_theory.specs.ChoiceLaws.{left_reads, right_reads, avoids_then, avoids_word, avoids_one, avoids_either}
use Rattle.gvdl_parser.specs.Kinds.{kind_at}
use Rattle.gvdl_parser.specs.Terminals.{opens}
use Rattle.gvdl_parser.proofs.Nexts.{clear_at, clearing}
use Rattle.gvdl_parser.specs.Statements.{behind, create, append, show, run, program, insert, remove, aggregate, second_form, statement_phrase}
use Rattle.gvdl_tokens.specs.declared.word.Word.TheVariants as w
use Rattle.gvdl_tokens.specs.declared.token.Token.TheVariants as t
use Rattle.gvdl_tokens.specs.declared.token.Kind.TheVariants as kind
use Rattle.gvdl_parser.proofs.script.statement.Goals as goal

pub returns-then-sees_word : goal.returns-then-sees_word
unfolding statement_phrase create program behind run append show second_form insert remove aggregate
returns-then-sees_word c = let e : next c.args.cursor.now.rest.now ≡ Some (t.Word w.Create) = search rules in left_reads opens _ _ alone c.args.levels _ _ _ refl (λ m. clear_at (kind.Word w.Create) (sym (ap kind_at e)) (search clearing depth 20)) (c.create.ensures)

pub returns-then-sees_word-2 : goal.returns-then-sees_word-2
unfolding statement_phrase create program behind run append show second_form insert remove aggregate
returns-then-sees_word-2 c = let e : next c.args.cursor.now.rest.now ≡ Some (t.Word w.Program) = search rules in right_reads opens _ _ alone c.args.levels _ _ _ refl (λ m. clear_at (kind.Word w.Program) (sym (ap kind_at e)) (search clearing depth 20)) (left_reads opens _ _ alone c.args.levels _ _ _ refl (λ m. clear_at (kind.Word w.Program) (sym (ap kind_at e)) (search clearing depth 20)) (c.program.ensures))

pub returns-then-sees_word-3 : goal.returns-then-sees_word-3
unfolding statement_phrase create program behind run append show second_form insert remove aggregate
returns-then-sees_word-3 c = let e : next c.args.cursor.now.rest.now ≡ Some (t.Word w.Run) = search rules in right_reads opens _ _ alone c.args.levels _ _ _ refl (λ m. clear_at (kind.Word w.Run) (sym (ap kind_at e)) (search clearing depth 20)) (right_reads opens _ _ alone c.args.levels _ _ _ refl (λ m. clear_at (kind.Word w.Run) (sym (ap kind_at e)) (search clearing depth 20)) (left_reads opens _ _ alone c.args.levels _ _ _ refl (λ m. clear_at (kind.Word w.Run) (sym (ap kind_at e)) (search clearing depth 20)) (c.run.ensures c.args.levels)))

pub returns-then-sees_word-4 : goal.returns-then-sees_word-4
unfolding statement_phrase create program behind run append show second_form insert remove aggregate
returns-then-sees_word-4 c = let e : next c.args.cursor.now.rest.now ≡ Some (t.Word w.Append) = search rules in right_reads opens _ _ alone c.args.levels _ _ _ refl (λ m. clear_at (kind.Word w.Append) (sym (ap kind_at e)) (search clearing depth 20)) (right_reads opens _ _ alone c.args.levels _ _ _ refl (λ m. clear_at (kind.Word w.Append) (sym (ap kind_at e)) (search clearing depth 20)) (right_reads opens _ _ alone c.args.levels _ _ _ refl (λ m. clear_at (kind.Word w.Append) (sym (ap kind_at e)) (search clearing depth 20)) (left_reads opens _ _ alone c.args.levels _ _ _ refl (λ m. clear_at (kind.Word w.Append) (sym (ap kind_at e)) (search clearing depth 20)) (c.append.ensures))))

pub returns-then-sees_word-5 : goal.returns-then-sees_word-5
unfolding statement_phrase create program behind run append show second_form insert remove aggregate
returns-then-sees_word-5 c = let e : next c.args.cursor.now.rest.now ≡ Some (t.Word w.Show) = search rules in right_reads opens _ _ alone c.args.levels _ _ _ refl (λ m. clear_at (kind.Word w.Show) (sym (ap kind_at e)) (search clearing depth 20)) (right_reads opens _ _ alone c.args.levels _ _ _ refl (λ m. clear_at (kind.Word w.Show) (sym (ap kind_at e)) (search clearing depth 20)) (right_reads opens _ _ alone c.args.levels _ _ _ refl (λ m. clear_at (kind.Word w.Show) (sym (ap kind_at e)) (search clearing depth 20)) (right_reads opens _ _ alone c.args.levels _ _ _ refl (λ m. clear_at (kind.Word w.Show) (sym (ap kind_at e)) (search clearing depth 20)) (left_reads opens _ _ alone c.args.levels _ _ _ refl (λ m. clear_at (kind.Word w.Show) (sym (ap kind_at e)) (search clearing depth 20)) (c.show.ensures c.args.levels)))))

pub returns : goal.returns
unfolding statement_phrase create program behind run append show second_form insert remove aggregate
returns c = let n0 : next c.args.cursor.now.rest.now ≢ Some (t.Word w.Create) = search rules in let n1 : next c.args.cursor.now.rest.now ≢ Some (t.Word w.Program) = search rules in let n2 : next c.args.cursor.now.rest.now ≢ Some (t.Word w.Run) = search rules in let n3 : next c.args.cursor.now.rest.now ≢ Some (t.Word w.Append) = search rules in let n4 : next c.args.cursor.now.rest.now ≢ Some (t.Word w.Show) = search rules in right_reads opens _ _ alone c.args.levels _ _ _ refl (λ m. search (avoids_word, avoids_one, avoids_then, avoids_either, n0, n1, n2, n3, n4) depth 20) (right_reads opens _ _ alone c.args.levels _ _ _ refl (λ m. search (avoids_word, avoids_one, avoids_then, avoids_either, n0, n1, n2, n3, n4) depth 20) (right_reads opens _ _ alone c.args.levels _ _ _ refl (λ m. search (avoids_word, avoids_one, avoids_then, avoids_either, n0, n1, n2, n3, n4) depth 20) (right_reads opens _ _ alone c.args.levels _ _ _ refl (λ m. search (avoids_word, avoids_one, avoids_then, avoids_either, n0, n1, n2, n3, n4) depth 20) (right_reads opens _ _ alone c.args.levels _ _ _ refl (λ m. search (avoids_word, avoids_one, avoids_then, avoids_either, n0, n1, n2, n3, n4) depth 20) (c.second_form.ensures)))))
