use Rattle.std.proofs.Common.{refl}
use Rattle.phrase_theory.specs.SequenceLaws.{passed_on, first_stuck, ◌▹◌, ◌▸◌, pure_found, stuck_before, fails_before, found_before}
use Rattle.gvdl_parser.specs.Statements.{collection}
use Rattle.gvdl_parser.proofs.StatementLaws.{statement_phrases, items_grows}
use Rattle.gvdl_parser.proofs.view.collection.Goals as goal

pub returns-in_err-name : goal.returns-in_err-name
unfolding collection
returns-in_err-name c = passed_on _ c.from_residual.ensures.1 (first_stuck (c.in_err-name.ensures c.args.levels) (λ m a. search statement_phrases depth 40))

pub returns-in_err-base : goal.returns-in_err-base
unfolding collection
returns-in_err-base c = passed_on _ c.from_residual-in_err-base.ensures.1 ((c.in_ok-name.ensures c.args.levels) ▹ first_stuck (c.in_err-base.ensures c.args.levels) (λ m a. search statement_phrases depth 40))

pub returns-in_err-items : goal.returns-in_err-items
unfolding collection
returns-in_err-items c = passed_on _ c.from_residual-in_err-items.ensures.1 ((c.in_ok-name.ensures c.args.levels) ▹ (c.in_ok-base.ensures c.args.levels) ▹ stuck_before refl c.in_err-items.ensures (λ m a. search statement_phrases depth 40))

pub returns-in_err-sign : goal.returns-in_err-sign
unfolding collection
returns-in_err-sign c = passed_on _ c.from_residual-in_err-sign.ensures.1 ((c.in_ok-name.ensures c.args.levels) ▹ (c.in_ok-base.ensures c.args.levels) ▹ fails_before refl items_grows c.in_ok-items.ensures (first_stuck (c.in_err-sign.ensures c.args.levels) (λ m a. search statement_phrases depth 40)))

pub returns : goal.returns
unfolding collection
returns c = (c.in_ok-name.ensures c.args.levels) ▸ (c.in_ok-base.ensures c.args.levels) ▸ found_before refl c.in_ok-items.ensures ((c.in_ok-sign.ensures c.args.levels) ▸ pure_found)
