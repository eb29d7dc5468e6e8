use Rattle.std.proofs.Common.{refl}
use Rattle.phrase_theory.specs.SequenceLaws.{passed_on, first_stuck, ◌▹◌, ◌▸◌, pure_found, stuck_before, fails_before, found_before}
use Rattle.gvdl_parser.specs.Statements.{run}
use Rattle.gvdl_parser.proofs.StatementLaws.{statement_phrases}
use Rattle.gvdl_parser.proofs.run.run.Goals as goal

pub returns-in_err-word : goal.returns-in_err-word
unfolding run
returns-in_err-word c = λ n. passed_on _ c.from_residual.ensures.1 (first_stuck (c.in_err-word.ensures n) (λ m a. search statement_phrases depth 40))

pub returns-in_err-call : goal.returns-in_err-call
unfolding run
returns-in_err-call c = λ n. passed_on _ c.from_residual-in_err-call.ensures.1 ((c.in_ok-word.ensures n) ▹ stuck_before refl (c.in_err-call.ensures n) (λ m a. search statement_phrases depth 40))

pub returns-in_err-word-2 : goal.returns-in_err-word-2
unfolding run
returns-in_err-word-2 c = λ n. passed_on _ c.from_residual-in_err-word-2.ensures.1 ((c.in_ok-word.ensures n) ▹ fails_before refl (λ n us a p. p) (c.in_ok-call.ensures n) (first_stuck (c.in_err-word-2.ensures n) (λ m a. search statement_phrases depth 40)))

pub returns-in_err-target : goal.returns-in_err-target
unfolding run
returns-in_err-target c = λ n. passed_on _ c.from_residual-in_err-target.ensures.1 ((c.in_ok-word.ensures n) ▹ fails_before refl (λ n us a p. p) (c.in_ok-call.ensures n) ((c.in_ok-word-2.ensures n) ▹ first_stuck (c.in_err-target.ensures n) (λ m a. search statement_phrases depth 40)))

pub returns-in_err-within : goal.returns-in_err-within
unfolding run
returns-in_err-within c = λ n. passed_on _ c.from_residual-in_err-within.ensures.1 ((c.in_ok-word.ensures n) ▹ fails_before refl (λ n us a p. p) (c.in_ok-call.ensures n) ((c.in_ok-word-2.ensures n) ▹ (c.in_ok-target.ensures n) ▹ first_stuck (c.in_err-within.ensures n) (λ m a. search statement_phrases depth 40)))

pub returns-in_err-number : goal.returns-in_err-number
unfolding run
returns-in_err-number c = λ n. passed_on _ c.from_residual-in_err-number.ensures.1 ((c.in_ok-word.ensures n) ▹ fails_before refl (λ n us a p. p) (c.in_ok-call.ensures n) ((c.in_ok-word-2.ensures n) ▹ (c.in_ok-target.ensures n) ▹ (c.in_ok-within.ensures n) ▹ first_stuck (c.in_err-number.ensures.read n) (λ m a. search statement_phrases depth 40)))

pub returns-in_err-rounds_word : goal.returns-in_err-rounds_word
unfolding run
returns-in_err-rounds_word c = λ n. passed_on _ c.from_residual-in_err-rounds_word.ensures.1 ((c.in_ok-word.ensures n) ▹ fails_before refl (λ n us a p. p) (c.in_ok-call.ensures n) ((c.in_ok-word-2.ensures n) ▹ (c.in_ok-target.ensures n) ▹ (c.in_ok-within.ensures n) ▹ (c.in_ok-number.ensures.read n) ▹ first_stuck (c.in_err-rounds_word.ensures n) (λ m a. search statement_phrases depth 40)))

pub returns-in_err-options : goal.returns-in_err-options
unfolding run
returns-in_err-options c = λ n. passed_on _ c.from_residual-in_err-options.ensures.1 ((c.in_ok-word.ensures n) ▹ fails_before refl (λ n us a p. p) (c.in_ok-call.ensures n) ((c.in_ok-word-2.ensures n) ▹ (c.in_ok-target.ensures n) ▹ (c.in_ok-within.ensures n) ▹ (c.in_ok-number.ensures.read n) ▹ (c.in_ok-rounds_word.ensures n) ▹ first_stuck (c.in_err-options.ensures n) (λ m a. search statement_phrases depth 40)))

pub returns : goal.returns
unfolding run
returns c = λ n. (c.in_ok-word.ensures n) ▸ found_before refl (c.in_ok-call.ensures n) ((c.in_ok-word-2.ensures n) ▸ (c.in_ok-target.ensures n) ▸ (c.in_ok-within.ensures n) ▸ (c.in_ok-number.ensures.read n) ▸ (c.in_ok-rounds_word.ensures n) ▸ (c.in_ok-options.ensures n) ▸ pure_found)
