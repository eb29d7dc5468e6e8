use Rattle.std.proofs.Common.{sym}
use Rattle.phrase_theory.specs.SequenceLaws.{passed_on}
use Rattle.phrase_theory.specs.ChainLaws.{chain_next, chain_fails, chain_done, chain_empty}
use Rattle.gvdl_parser.proofs.StatementLaws.{statement_loop, statement_needs, not_none, is_none, statement_shorter}
use Rattle.gvdl_parser.proofs.script.statements.Goals as goal

pub returns-in_err-next-clause-read : goal.returns-in_err-next-clause-read
returns-in_err-next-clause-read c = passed_on _ c.from_residual.ensures.1 (chain_fails statement_loop c.more.invariant (not_none _ (sym c.more-test.ensures)) c.in_err-next.ensures)

pub more-init : goal.more-init
more-init c = chain_empty _ c.new-statements.ensures

pub more-smaller : goal.more-smaller
more-smaller c = statement_shorter _ _ c.in_ok-next.ensures

pub more-preserved : goal.more-preserved
more-preserved c = chain_next statement_loop c.more.statements _ c.more.invariant (not_none _ (sym c.more-test.ensures)) c.in_ok-next.ensures c.in_ok-push.ensures.ok

pub returns-clause-read : goal.returns-clause-read
returns-clause-read c = chain_done statement_loop c.more.invariant (λ m. statement_needs m _ (is_none _ (sym c.more-test.ensures)))
