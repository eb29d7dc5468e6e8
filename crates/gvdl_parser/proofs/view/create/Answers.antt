use Rattle.phrase_theory.specs.SequenceLaws.{passed_on, first_stuck, ◌▹◌, ◌▸◌, pure_found}
use Rattle.gvdl_parser.specs.Statements.{create}
use Rattle.gvdl_parser.proofs.StatementLaws.{statement_phrases}
use Rattle.gvdl_parser.proofs.view.create.Goals as goal

pub returns-in_err-word : goal.returns-in_err-word
unfolding create
returns-in_err-word c = passed_on _ c.from_residual.ensures.1 (first_stuck (c.in_err-word.ensures c.args.levels) (λ m a. search statement_phrases depth 40))

pub returns-in_err-word-2 : goal.returns-in_err-word-2
unfolding create
returns-in_err-word-2 c = passed_on _ c.from_residual-in_err-word-2.ensures.1 ((c.in_ok-word.ensures c.args.levels) ▹ first_stuck (c.in_err-word-2.ensures c.args.levels) (λ m a. search statement_phrases depth 40))

pub returns-in_err-made : goal.returns-in_err-made
unfolding create
returns-in_err-made c = passed_on _ c.from_residual-in_err-made.ensures.1 ((c.in_ok-word.ensures c.args.levels) ▹ (c.in_ok-word-2.ensures c.args.levels) ▹ first_stuck c.in_err-made.ensures (λ m a. search statement_phrases depth 40))

pub returns : goal.returns
unfolding create
returns c = (c.in_ok-word.ensures c.args.levels) ▸ (c.in_ok-word-2.ensures c.args.levels) ▸ c.in_ok-made.ensures ▸ pure_found
