use Rattle.std.proofs.Common.{refl}
use Rattle.phrase_theory.specs.SequenceLaws.{passed_on, first_stuck, ◌▹◌, ◌▸◌, pure_found, stuck_before, fails_before, found_before}
use Rattle.gvdl_parser.specs.Statements.{item}
use Rattle.gvdl_parser.proofs.StatementLaws.{statement_phrases, item_body_grows}
use Rattle.gvdl_parser.proofs.view.item.Goals as goal

pub returns-in_err-sign : goal.returns-in_err-sign
unfolding item
returns-in_err-sign c = passed_on _ c.from_residual.ensures.1 (first_stuck (c.in_err-sign.ensures c.args.levels) (λ m a. search statement_phrases depth 40))

pub returns-in_err-name : goal.returns-in_err-name
unfolding item
returns-in_err-name c = passed_on _ c.from_residual-in_err-name.ensures.1 ((c.in_ok-sign.ensures c.args.levels) ▹ first_stuck (c.in_err-name.ensures c.args.levels) (λ m a. search statement_phrases depth 40))

pub returns-in_err-sign-2 : goal.returns-in_err-sign-2
unfolding item
returns-in_err-sign-2 c = passed_on _ c.from_residual-in_err-sign-2.ensures.1 ((c.in_ok-sign.ensures c.args.levels) ▹ (c.in_ok-name.ensures c.args.levels) ▹ first_stuck (c.in_err-sign-2.ensures c.args.levels) (λ m a. search statement_phrases depth 40))

pub returns-in_err-body : goal.returns-in_err-body
unfolding item
returns-in_err-body c = passed_on _ c.from_residual-in_err-body.ensures.1 ((c.in_ok-sign.ensures c.args.levels) ▹ (c.in_ok-name.ensures c.args.levels) ▹ (c.in_ok-sign-2.ensures c.args.levels) ▹ stuck_before refl c.in_err-body.ensures (λ m a. search statement_phrases depth 40))

pub returns-in_err-sign-3 : goal.returns-in_err-sign-3
unfolding item
returns-in_err-sign-3 c = passed_on _ c.from_residual-in_err-sign-3.ensures.1 ((c.in_ok-sign.ensures c.args.levels) ▹ (c.in_ok-name.ensures c.args.levels) ▹ (c.in_ok-sign-2.ensures c.args.levels) ▹ fails_before refl item_body_grows c.in_ok-body.ensures (first_stuck (c.in_err-sign-3.ensures c.args.levels) (λ m a. search statement_phrases depth 40)))

pub returns : goal.returns
unfolding item
returns c = (c.in_ok-sign.ensures c.args.levels) ▸ (c.in_ok-name.ensures c.args.levels) ▸ (c.in_ok-sign-2.ensures c.args.levels) ▸ found_before refl c.in_ok-body.ensures ((c.in_ok-sign-3.ensures c.args.levels) ▸ pure_found)
