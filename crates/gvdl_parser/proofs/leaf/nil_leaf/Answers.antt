use Rattle.phrase_theory.specs.SequenceLaws.{passed_on, first_stuck, ◌▸◌, pure_found}
use Rattle.gvdl_parser.specs.Expressions.{nil_leaf}
use Rattle.gvdl_parser.proofs.Having.{phrases, prop_has}
use Rattle.gvdl_parser.proofs.ExpressionLaws.{phrase_value}
use Rattle.gvdl_parser.proofs.leaf.nil_leaf.Goals as goal

pub returns-in_err-word : goal.returns-in_err-word
unfolding nil_leaf
returns-in_err-word c = λ n. passed_on _ c.from_residual.ensures.1 (first_stuck (c.in_err-word.ensures n) (λ m a. search (phrases, prop_has, phrase_value) depth 20))

pub returns : goal.returns
unfolding nil_leaf
returns c = λ n. (c.in_ok-word.ensures n) ▸ pure_found
