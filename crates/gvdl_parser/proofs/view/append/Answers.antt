use Rattle.std.proofs.Common.{refl}
use Rattle.phrase_theory.specs.SequenceLaws.{passed_on, first_stuck, ◌▹◌, ◌▸◌, pure_found, stuck_before, fails_before, found_before}
use Rattle.gvdl_parser.specs.Statements.{append}
use Rattle.gvdl_parser.proofs.StatementLaws.{statement_phrases, items_grows}
use Rattle.gvdl_parser.proofs.view.append.Goals as goal

pub returns-in_err-word : goal.returns-in_err-word
unfolding append
returns-in_err-word c = passed_on _ c.from_residual.ensures.1 (first_stuck (c.in_err-word.ensures c.args.levels) (λ m a. search statement_phrases depth 40))

pub returns-in_err-target : goal.returns-in_err-target
unfolding append
returns-in_err-target c = passed_on _ c.from_residual-in_err-target.ensures.1 ((c.in_ok-word.ensures c.args.levels) ▹ first_stuck (c.in_err-target.ensures c.args.levels) (λ m a. search statement_phrases depth 40))

pub returns-in_err-items : goal.returns-in_err-items
unfolding append
returns-in_err-items c = passed_on _ c.from_residual-in_err-items.ensures.1 ((c.in_ok-word.ensures c.args.levels) ▹ (c.in_ok-target.ensures c.args.levels) ▹ stuck_before refl c.in_err-items.ensures (λ m a. search statement_phrases depth 40))

pub returns-in_err-sign : goal.returns-in_err-sign
unfolding append
returns-in_err-sign c = passed_on _ c.from_residual-in_err-sign.ensures.1 ((c.in_ok-word.ensures c.args.levels) ▹ (c.in_ok-target.ensures c.args.levels) ▹ fails_before refl items_grows c.in_ok-items.ensures (first_stuck (c.in_err-sign.ensures c.args.levels) (λ m a. search statement_phrases depth 40)))

pub returns : goal.returns
unfolding append
returns c = (c.in_ok-word.ensures c.args.levels) ▸ (c.in_ok-target.ensures c.args.levels) ▸ found_before refl c.in_ok-items.ensures ((c.in_ok-sign.ensures c.args.levels) ▸ pure_found)
