use Rattle.std.proofs.Common.{rules}
use Rattle.phrase_theory.specs.SequenceLaws.{passed_on, first_stuck, ◌▹◌, ◌▸◌, pure_found}
use Rattle.gvdl_parser.specs.Statements.{window}
use Rattle.gvdl_parser.proofs.StatementLaws.{statement_phrases}
use mir.Val.{SFits}
use mir.Syntax.{w64}
use Rattle.std.proofs.lemmas.Int.{to_z-of_z}
use Rattle.gvdl_parser.proofs.view.window.Goals as goal

pub returns-in_err-prop : goal.returns-in_err-prop
unfolding window
returns-in_err-prop c = λ n. passed_on _ c.from_residual.ensures.1 (first_stuck (c.in_err-prop.ensures n) (λ m a. search statement_phrases depth 40))

pub returns-in_err-word : goal.returns-in_err-word
unfolding window
returns-in_err-word c = λ n. passed_on _ c.from_residual-in_err-word.ensures.1 ((c.in_ok-prop.ensures n) ▹ first_stuck (c.in_err-word.ensures n) (λ m a. search statement_phrases depth 40))

pub returns-in_err-first : goal.returns-in_err-first
unfolding window
returns-in_err-first c = λ n. passed_on _ c.from_residual-in_err-first.ensures.1 ((c.in_ok-prop.ensures n) ▹ (c.in_ok-word.ensures n) ▹ first_stuck (c.in_err-first.ensures n) (λ m a. search statement_phrases depth 40))

pub returns-in_err-word-2 : goal.returns-in_err-word-2
unfolding window
returns-in_err-word-2 c = λ n. passed_on _ c.from_residual-in_err-word-2.ensures.1 ((c.in_ok-prop.ensures n) ▹ (c.in_ok-word.ensures n) ▹ (c.in_ok-first.ensures n) ▹ first_stuck (c.in_err-word-2.ensures n) (λ m a. search statement_phrases depth 40))

pub returns-in_err-last : goal.returns-in_err-last
unfolding window
returns-in_err-last c = λ n. passed_on _ c.from_residual-in_err-last.ensures.1 ((c.in_ok-prop.ensures n) ▹ (c.in_ok-word.ensures n) ▹ (c.in_ok-first.ensures n) ▹ (c.in_ok-word-2.ensures n) ▹ first_stuck (c.in_err-last.ensures n) (λ m a. search statement_phrases depth 40))

pub returns-in_err-width : goal.returns-in_err-width
unfolding window
returns-in_err-width c = λ n. passed_on _ c.from_residual-in_err-width.ensures.1 ((c.in_ok-prop.ensures n) ▹ (c.in_ok-word.ensures n) ▹ (c.in_ok-first.ensures n) ▹ (c.in_ok-word-2.ensures n) ▹ (c.in_ok-last.ensures n) ▹ first_stuck (c.in_err-width.ensures n) (λ m a. search statement_phrases depth 40))

pub returns-in_err-step : goal.returns-in_err-step
unfolding window
returns-in_err-step c = λ n. passed_on _ c.from_residual-in_err-step.ensures.1 ((c.in_ok-prop.ensures n) ▹ (c.in_ok-word.ensures n) ▹ (c.in_ok-first.ensures n) ▹ (c.in_ok-word-2.ensures n) ▹ (c.in_ok-last.ensures n) ▹ (c.in_ok-width.ensures n) ▹ first_stuck (c.in_err-step.ensures n) (λ m a. search statement_phrases depth 40))

pub returns : goal.returns
unfolding window
returns c = λ n. let f : SFits w64 c.in_ok-first.first = search rules in let g : SFits w64 c.in_ok-last.last = search rules in rw (to_z-of_z w64 c.in_ok-first.first f, to_z-of_z w64 c.in_ok-last.last g) ((c.in_ok-prop.ensures n) ▸ (c.in_ok-word.ensures n) ▸ (c.in_ok-first.ensures n) ▸ (c.in_ok-word-2.ensures n) ▸ (c.in_ok-last.ensures n) ▸ (c.in_ok-width.ensures n) ▸ (c.in_ok-step.ensures n) ▸ pure_found)
