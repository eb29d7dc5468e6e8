-- Nothing was fed yet.
use Rattle.flow_core.specs.Expanded.{expanded}
use Rattle.flow_core.specs.Routes.{routes_fresh}
use Rattle.flow_core.proofs.bypass.Bypass.new.Goals as goal

pub returns-clause-fresh : goal.returns-clause-fresh
returns-clause-fresh g c = record {
  is_new = routes_fresh (expanded (g.P.Expand.gives c.args.past)) (expanded (g.E.Expand.gives c.args.into)) (g.O.Operator.stands c.args.inner) c.requires.is_new;
  nothing_due = c.requires.nothing_due;
  at_least = c.requires.at_least;
  live = c.requires.live;
}
