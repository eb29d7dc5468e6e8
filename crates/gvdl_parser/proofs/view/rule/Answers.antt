use Rattle.phrase_theory.specs.SequenceLaws.{passed_on}
use Rattle.phrase_theory.specs.LevelLaws.{mapped_found, mapped_fails}
use Rattle.gvdl_parser.specs.Statements.{rule}
use Rattle.gvdl_parser.proofs.view.rule.Goals as goal

pub returns-in_err-predicate : goal.returns-in_err-predicate
unfolding rule
returns-in_err-predicate c = passed_on _ c.from_residual.ensures.1 (mapped_fails _ c.in_err-predicate.ensures)

pub returns : goal.returns
unfolding rule
returns c = mapped_found _ c.in_ok-predicate.ensures
