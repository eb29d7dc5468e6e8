use Rattle.std.proofs.Common.{rules}
use Rattle.phrase_theory.specs.SequenceLaws.{passed_on, first_stuck, ◌▸◌, pure_found}
use Rattle.gvdl_parser.specs.Statements.{number_arg}
use Rattle.gvdl_parser.proofs.StatementLaws.{statement_phrases}
use mir.Val.{SFits}
use mir.Syntax.{w64}
use Rattle.std.proofs.lemmas.Int.{to_z-of_z}
use Rattle.gvdl_parser.proofs.call.number_arg.Goals as goal

pub returns-in_err-number : goal.returns-in_err-number
unfolding number_arg
returns-in_err-number c = λ n. passed_on _ c.from_residual.ensures.1 (first_stuck (c.in_err-number.ensures n) (λ m a. search statement_phrases depth 40))

pub returns : goal.returns
unfolding number_arg
returns c = λ n. let f : SFits w64 c.in_ok-number.number = search rules in rw (to_z-of_z w64 c.in_ok-number.number f) ((c.in_ok-number.ensures n) ▸ pure_found)
