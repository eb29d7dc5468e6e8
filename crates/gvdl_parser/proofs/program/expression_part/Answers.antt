use Rattle.std.proofs.Common.{refl}
use Rattle.phrase_theory.specs.SequenceLaws.{passed_on, first_stuck, ◌▹◌, ◌▸◌, pure_found, stuck_before, fails_before, found_before}
use Rattle.gvdl_parser.specs.Statements.{part}
use Rattle.gvdl_parser.proofs.ExpressionLaws.{expression_grows}
use Rattle.gvdl_parser.proofs.StatementLaws.{statement_phrases}
use Rattle.gvdl_parser.proofs.program.expression_part.Goals as goal

pub returns-in_err-word : goal.returns-in_err-word
unfolding part
returns-in_err-word c = passed_on _ c.from_residual.ensures.1 (first_stuck (c.in_err-word.ensures c.args.levels) (λ m a. search statement_phrases depth 40))

pub returns-in_err-tree : goal.returns-in_err-tree
unfolding part
returns-in_err-tree c = passed_on _ c.from_residual-in_err-tree.ensures.1 ((c.in_ok-word.ensures c.args.levels) ▹ stuck_before refl c.in_err-tree.ensures (λ m a. search statement_phrases depth 40))

pub returns-in_err-sign : goal.returns-in_err-sign
unfolding part
returns-in_err-sign c = passed_on _ c.from_residual-in_err-sign.ensures.1 ((c.in_ok-word.ensures c.args.levels) ▹ fails_before refl expression_grows c.in_ok-tree.ensures (first_stuck (c.in_err-sign.ensures c.args.levels) (λ m a. search statement_phrases depth 40)))

pub returns : goal.returns
unfolding part
returns c = (c.in_ok-word.ensures c.args.levels) ▸ found_before refl c.in_ok-tree.ensures ((c.in_ok-sign.ensures c.args.levels) ▸ pure_found)
