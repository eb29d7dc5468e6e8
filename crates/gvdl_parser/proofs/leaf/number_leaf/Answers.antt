use Rattle.phrase_theory.specs.SequenceLaws.{passed_on, first_stuck, ◌▸◌, pure_found}
use Rattle.gvdl_parser.specs.Expressions.{number_leaf}
use Rattle.gvdl_parser.proofs.Having.{phrases, prop_has}
use Rattle.gvdl_parser.proofs.ExpressionLaws.{phrase_value}
use Rattle.gvdl_parser.proofs.leaf.number_leaf.Goals as goal

pub returns-in_err-number : goal.returns-in_err-number
unfolding number_leaf
returns-in_err-number c = λ n. passed_on _ c.from_residual.ensures.1 (first_stuck (c.in_err-number.ensures.read n) (λ m a. search (phrases, prop_has, phrase_value) depth 20))

pub returns : goal.returns
unfolding number_leaf
returns c = λ n. (c.in_ok-number.ensures.read n) ▸ pure_found
