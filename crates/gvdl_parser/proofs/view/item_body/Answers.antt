use Rattle.std.proofs.Common.{refl, sym, ap, rules, Some, ◌≡◌, ◌≢◌}
use Rattle.phrase_theory.specs.Reading.{next, alone}
use Rattle.phrase_theory.specs.ChoiceLaws.{left_reads, right_reads, avoids_then, avoids_word}
use Rattle.gvdl_parser.specs.Kinds.{kind_at}
use Rattle.gvdl_parser.specs.Terminals.{opens}
use Rattle.gvdl_parser.proofs.Nexts.{clear_at}
use Rattle.gvdl_parser.specs.Statements.{behind, window, rule, item_body}
use Rattle.gvdl_parser.specs.Predicates.{after_predicate}
use Rattle.gvdl_parser.proofs.StatementLaws.{rule_clear}
use Rattle.gvdl_tokens.specs.declared.word.Word.TheVariants as w
use Rattle.gvdl_tokens.specs.declared.token.Token.TheVariants as t
use Rattle.gvdl_tokens.specs.declared.token.Kind.TheVariants as kind
use Rattle.gvdl_parser.proofs.view.item_body.Goals as goal

pub returns-then-sees_word : goal.returns-then-sees_word
unfolding item_body window behind
returns-then-sees_word c = let e : next c.args.cursor.now.rest.now ≡ Some (t.Word w.Window) = search rules in left_reads opens (λ n. window) rule after_predicate c.args.levels _ _ _ refl (λ m. clear_at (kind.Word w.Window) (sym (ap kind_at e)) (rule_clear m)) (c.window.ensures c.args.levels)

pub returns : goal.returns
unfolding item_body window behind
returns c = let n0 : next c.args.cursor.now.rest.now ≢ Some (t.Word w.Window) = search rules in right_reads opens (λ n. window) rule after_predicate c.args.levels _ _ _ refl (λ m. avoids_then _ _ _ after_predicate (avoids_then _ _ _ alone (avoids_word _ _ alone n0))) c.rule.ensures
