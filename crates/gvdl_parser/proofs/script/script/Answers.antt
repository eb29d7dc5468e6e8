use Rattle.phrase_theory.specs.SequenceLaws.{passed_on}
use Rattle.gvdl_parser.proofs.StatementLaws.{form_stuck, form_read}
use Rattle.gvdl_parser.proofs.script.script.Goals as goal

pub returns-in_err-form-clause-read : goal.returns-in_err-form-clause-read
returns-in_err-form-clause-read c = passed_on _ c.from_residual.ensures.1 (form_stuck (c.in_err-form.ensures c.args.levels))

pub returns-clause-read : goal.returns-clause-read
returns-clause-read c = form_read c.script_behind.result _ (c.in_ok-form.ensures c.args.levels) c.script_behind.ensures.read
