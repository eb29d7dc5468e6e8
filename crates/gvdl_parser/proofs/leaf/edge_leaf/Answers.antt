use Rattle.phrase_theory.specs.SequenceLaws.{passed_on, first_stuck, ◌▹◌, ◌▸◌, pure_found}
use Rattle.gvdl_parser.specs.Expressions.{edge_leaf}
use Rattle.gvdl_parser.proofs.Having.{phrases, prop_has}
use Rattle.gvdl_parser.proofs.ExpressionLaws.{phrase_value}
use Rattle.gvdl_parser.proofs.leaf.edge_leaf.Goals as goal

pub returns-in_err-word : goal.returns-in_err-word
unfolding edge_leaf
returns-in_err-word c = λ n. passed_on _ c.from_residual.ensures.1 (first_stuck (c.in_err-word.ensures n) (λ m a. search (phrases, prop_has, phrase_value) depth 20))

pub returns-in_err-sign : goal.returns-in_err-sign
unfolding edge_leaf
returns-in_err-sign c = λ n. passed_on _ c.from_residual-in_err-sign.ensures.1 ((c.in_ok-word.ensures n) ▹ first_stuck (c.in_err-sign.ensures n) (λ m a. search (phrases, prop_has, phrase_value) depth 20))

pub returns-in_err-property : goal.returns-in_err-property
unfolding edge_leaf
returns-in_err-property c = λ n. passed_on _ c.from_residual-in_err-property.ensures.1 ((c.in_ok-word.ensures n) ▹ (c.in_ok-sign.ensures n) ▹ first_stuck (c.in_err-property.ensures n) (λ m a. search (phrases, prop_has, phrase_value) depth 20))

pub returns : goal.returns
unfolding edge_leaf
returns c = λ n. (c.in_ok-word.ensures n) ▸ (c.in_ok-sign.ensures n) ▸ (c.in_ok-property.ensures n) ▸ pure_found
