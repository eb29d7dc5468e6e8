use Rattle.phrase_theory.specs.SequenceLaws.{passed_on, first_stuck, ◌▹◌, ◌▸◌}
use Rattle.phrase_theory.specs.LevelLaws.{mapped_found, mapped_fails}
use Rattle.gvdl_parser.specs.Statements.{script_behind}
use Rattle.gvdl_parser.proofs.StatementLaws.{statement_phrases}
use Rattle.gvdl_parser.proofs.script.script_behind.Goals as goal

pub returns-in_err-loaded-clause-read : goal.returns-in_err-loaded-clause-read
unfolding script_behind
returns-in_err-loaded-clause-read c = passed_on _ c.from_residual.ensures.1 (first_stuck (c.in_err-loaded.ensures c.args.levels) (λ m a. search statement_phrases depth 40))

pub returns-in_err-statements-clause-read : goal.returns-in_err-statements-clause-read
unfolding script_behind
returns-in_err-statements-clause-read c = passed_on _ c.from_residual-in_err-statements.ensures.1 ((c.in_ok-loaded.ensures c.args.levels) ▹ mapped_fails _ c.in_err-statements.ensures.read)

pub returns-clause-read : goal.returns-clause-read
unfolding script_behind
returns-clause-read c = (c.in_ok-loaded.ensures c.args.levels) ▸ mapped_found _ c.in_ok-statements.ensures.read
