use Rattle.std.proofs.Common.{refl}
use Rattle.phrase_theory.specs.SequenceLaws.{passed_on, first_stuck, ◌▹◌, ◌▸◌, pure_found, stuck_before, fails_before, found_before}
use Rattle.gvdl_parser.specs.Statements.{remove}
use Rattle.gvdl_parser.proofs.PredicateLaws.{predicate_grows}
use Rattle.gvdl_parser.proofs.StatementLaws.{statement_phrases}
use Rattle.gvdl_parser.proofs.edits.remove.Goals as goal

pub returns-in_err-word : goal.returns-in_err-word
unfolding remove
returns-in_err-word c = passed_on _ c.from_residual.ensures.1 (first_stuck (c.in_err-word.ensures c.args.levels) (λ m a. search statement_phrases depth 40))

pub returns-in_err-word-2 : goal.returns-in_err-word-2
unfolding remove
returns-in_err-word-2 c = passed_on _ c.from_residual-in_err-word-2.ensures.1 ((c.in_ok-word.ensures c.args.levels) ▹ first_stuck (c.in_err-word-2.ensures c.args.levels) (λ m a. search statement_phrases depth 40))

pub returns-in_err-word-3 : goal.returns-in_err-word-3
unfolding remove
returns-in_err-word-3 c = passed_on _ c.from_residual-in_err-word-3.ensures.1 ((c.in_ok-word.ensures c.args.levels) ▹ (c.in_ok-word-2.ensures c.args.levels) ▹ first_stuck (c.in_err-word-3.ensures c.args.levels) (λ m a. search statement_phrases depth 40))

pub returns-in_err-rule : goal.returns-in_err-rule
unfolding remove
returns-in_err-rule c = passed_on _ c.from_residual-in_err-rule.ensures.1 ((c.in_ok-word.ensures c.args.levels) ▹ (c.in_ok-word-2.ensures c.args.levels) ▹ (c.in_ok-word-3.ensures c.args.levels) ▹ stuck_before refl c.in_err-rule.ensures (λ m a. search statement_phrases depth 40))

pub returns-in_err-sign : goal.returns-in_err-sign
unfolding remove
returns-in_err-sign c = passed_on _ c.from_residual-in_err-sign.ensures.1 ((c.in_ok-word.ensures c.args.levels) ▹ (c.in_ok-word-2.ensures c.args.levels) ▹ (c.in_ok-word-3.ensures c.args.levels) ▹ fails_before refl predicate_grows c.in_ok-rule.ensures (first_stuck (c.in_err-sign.ensures c.args.levels) (λ m a. search statement_phrases depth 40)))

pub returns : goal.returns
unfolding remove
returns c = (c.in_ok-word.ensures c.args.levels) ▸ (c.in_ok-word-2.ensures c.args.levels) ▸ (c.in_ok-word-3.ensures c.args.levels) ▸ found_before refl c.in_ok-rule.ensures ((c.in_ok-sign.ensures c.args.levels) ▸ pure_found)
