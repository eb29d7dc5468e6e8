use Rattle.std.proofs.Common.{refl, sym, ap, rules, Some, ◌≡◌, ◌≢◌}
use Rattle.phrase_theory.specs.Reading.{next, alone}
use Rattle.phrase_theory.specs.ChoiceLaws.{left_reads, right_reads, avoids_then, avoids_word}
use Rattle.gvdl_parser.specs.Kinds.{kind_at}
use Rattle.gvdl_parser.specs.Terminals.{opens}
use Rattle.gvdl_parser.proofs.Nexts.{clear_at, clearing}
use Rattle.gvdl_parser.specs.Statements.{behind, collection, single, made}
use Rattle.gvdl_tokens.specs.declared.word.Word.TheVariants as w
use Rattle.gvdl_tokens.specs.declared.token.Token.TheVariants as t
use Rattle.gvdl_tokens.specs.declared.token.Kind.TheVariants as kind
use Rattle.gvdl_parser.proofs.view.made.Goals as goal

pub returns-then-sees_word : goal.returns-then-sees_word
unfolding made collection single behind
returns-then-sees_word c = let e : next c.args.cursor.now.rest.now ≡ Some (t.Word w.Collection) = search rules in left_reads opens collection single alone c.args.levels _ _ _ refl (λ m. clear_at (kind.Word w.Collection) (sym (ap kind_at e)) (search clearing depth 12)) c.collection.ensures

pub returns : goal.returns
unfolding made collection single behind
returns c = let n0 : next c.args.cursor.now.rest.now ≢ Some (t.Word w.Collection) = search rules in right_reads opens collection single alone c.args.levels _ _ _ refl (λ m. avoids_then _ _ _ alone (avoids_then _ _ _ alone (avoids_word _ _ alone n0))) c.single.ensures
