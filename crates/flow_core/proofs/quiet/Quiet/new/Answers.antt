-- Nothing was fed yet.
use Rattle.flow_core.specs.Quietly.{quiet_fresh}
use Rattle.flow_core.proofs.quiet.Quiet.new.Goals as goal

pub returns-clause-fresh : goal.returns-clause-fresh
returns-clause-fresh g c = record {
  is_new = quiet_fresh (g.O.Operator.stands c.args.inner) c.requires.is_new;
  nothing_due = c.requires.nothing_due;
  at_least = c.requires.at_least;
  live = c.requires.live;
}
