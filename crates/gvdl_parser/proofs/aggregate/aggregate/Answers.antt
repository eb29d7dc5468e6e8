use Rattle.std.proofs.Common.{refl}
use Rattle.phrase_theory.specs.SequenceLaws.{passed_on, first_stuck, ◌▹◌, ◌▸◌, pure_found, stuck_before, fails_before, found_before}
use Rattle.gvdl_parser.specs.Statements.{aggregate}
use Rattle.gvdl_parser.proofs.StatementLaws.{statement_phrases}
use Rattle.gvdl_parser.proofs.aggregate.aggregate.Goals as goal

pub returns-in_err-target : goal.returns-in_err-target
unfolding aggregate
returns-in_err-target c = λ n. passed_on _ c.from_residual.ensures.1 (first_stuck (c.in_err-target.ensures n) (λ m a. search statement_phrases depth 40))

pub returns-in_err-word : goal.returns-in_err-word
unfolding aggregate
returns-in_err-word c = λ n. passed_on _ c.from_residual-in_err-word.ensures.1 ((c.in_ok-target.ensures n) ▹ first_stuck (c.in_err-word.ensures n) (λ m a. search statement_phrases depth 40))

pub returns-in_err-by : goal.returns-in_err-by
unfolding aggregate
returns-in_err-by c = λ n. passed_on _ c.from_residual-in_err-by.ensures.1 ((c.in_ok-target.ensures n) ▹ (c.in_ok-word.ensures n) ▹ first_stuck (c.in_err-by.ensures n) (λ m a. search statement_phrases depth 40))

pub returns-in_err-sum : goal.returns-in_err-sum
unfolding aggregate
returns-in_err-sum c = λ n. passed_on _ c.from_residual-in_err-sum.ensures.1 ((c.in_ok-target.ensures n) ▹ (c.in_ok-word.ensures n) ▹ (c.in_ok-by.ensures n) ▹ stuck_before refl (c.in_err-sum.ensures n) (λ m a. search statement_phrases depth 40))

pub returns-in_err-sign : goal.returns-in_err-sign
unfolding aggregate
returns-in_err-sign c = λ n. passed_on _ c.from_residual-in_err-sign.ensures.1 ((c.in_ok-target.ensures n) ▹ (c.in_ok-word.ensures n) ▹ (c.in_ok-by.ensures n) ▹ fails_before refl (λ n us a p. p) (c.in_ok-sum.ensures n) (first_stuck (c.in_err-sign.ensures n) (λ m a. search statement_phrases depth 40)))

pub returns : goal.returns
unfolding aggregate
returns c = λ n. (c.in_ok-target.ensures n) ▸ (c.in_ok-word.ensures n) ▸ (c.in_ok-by.ensures n) ▸ found_before refl (c.in_ok-sum.ensures n) ((c.in_ok-sign.ensures n) ▸ pure_found)
