use Rattle.std.proofs.Common.{refl, ap, rules, true, false, Some, ◌≡◌, ◌≢◌}
use Rattle.phrase_theory.specs.Reading.{next, alone}
use Rattle.phrase_theory.specs.ChoiceLaws.{left_reads, right_reads, avoids_then, avoids_word}
use Rattle.gvdl_parser.specs.Kinds.{comes}
use Rattle.gvdl_parser.specs.Terminals.{opens}
use Rattle.gvdl_parser.specs.Statements.{part, phased, unphased, run_options}
use Rattle.gvdl_parser.proofs.StatementLaws.{unphased_avoids}
use Rattle.gvdl_tokens.specs.declared.word.Word.TheVariants as w
use Rattle.gvdl_tokens.specs.declared.token.Token.TheVariants as t
use Rattle.gvdl_tokens.specs.declared.token.Kind.TheVariants as kind
use Rattle.gvdl_parser.proofs.run.run_options.Goals as goal

pub returns-then-not-within : goal.returns-then-not-within
unfolding run_options
returns-then-not-within c = let no : c.args.within ≡ false = search rules in rw no c.unphased.ensures

pub returns-then-sees_word : goal.returns-then-sees_word
unfolding run_options
returns-then-sees_word c = let yes : c.args.within ≡ true = search rules in rw yes (λ n. let e : next c.args.cursor.now.rest.now ≡ Some (t.Word w.Phases) = search rules in left_reads opens (λ m. phased) (λ m. unphased) alone n _ _ _ refl (λ m. unphased_avoids _ (ap (comes (kind.Word w.Phases)) e)) (c.phased.ensures n))

pub returns : goal.returns
unfolding run_options phased part
returns c = let yes : c.args.within ≡ true = search rules in rw yes (λ n. let n0 : next c.args.cursor.now.rest.now ≢ Some (t.Word w.Phases) = search rules in right_reads opens (λ m. phased) (λ m. unphased) alone n _ _ _ refl (λ m. avoids_then _ _ _ alone (avoids_then _ _ _ alone (avoids_word _ _ alone n0))) (c.unphased-2.ensures n))
