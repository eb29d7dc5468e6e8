-- The operator answers for the run.
use Rattle.flow_core.specs.Closing.{closed_settled}
use Rattle.flow_core.proofs.closing.settled.Goals as goal

pub returns-clause-due : goal.returns-clause-due
returns-clause-due g c = λ run h closed. closed_settled g.T.Time.leq g.T.Time.lub g.met.T.Time.lattice _ _ _ run (g.met.O.Operator.answers c.args.operator.now run h) closed

pub returns-clause-step : goal.returns-clause-step
returns-clause-step g c = λ run t h closed. rw (closed_settled g.T.Time.leq g.T.Time.lub g.met.T.Time.lattice _ _ _ run (g.met.O.Operator.answers c.args.operator.now run h) closed) tt
