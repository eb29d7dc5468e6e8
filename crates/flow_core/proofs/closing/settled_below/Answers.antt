-- The operator answers for the run.
use Rattle.flow_core.specs.Closing.{closed_below}
use Rattle.flow_core.proofs.closing.settled_below.Goals as goal

pub returns : goal.returns
returns g c = λ run h closed. closed_below g.T.Time.leq g.T.Time.lub g.met.T.Time.lattice _ _ _ run (g.met.O.Operator.answers c.args.operator.now run h) c.args.t closed
