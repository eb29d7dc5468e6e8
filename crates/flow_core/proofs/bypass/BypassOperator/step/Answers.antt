-- The operator inside is stepped.
use Rattle.std.proofs.Common.{◌-◌}
use Rattle.weighted.specs.Alike.{Alike, Alike-refl, Alike-trans, Alike-append}
use Rattle.flow_core.specs.Expanded.{expanded}
use Rattle.flow_core.specs.Routes.{routes_above, routes_continued}
use Rattle.flow_core.proofs.Outcomes.{IfOk-imply}
use Rattle.flow_core.proofs.bypass.BypassOperator.step.Goals as goal

pub step-requires-clause-run : goal.step-requires-clause-run
step-requires-clause-run g c =
    let run = c.requires.run.0 in
    let routes = c.requires.run.1 in
    (_, routes.inner, routes_above (expanded (g.P.Expand.gives c.args.self.now.past)) (expanded (g.E.Expand.gives c.args.self.now.into)) g.T.Time.leq c.args.t routes.routes run.steps routes.steps c.requires.run.2)

pub returns-clause-runs : goal.returns-clause-runs
returns-clause-runs g c =
    let past = expanded (g.P.Expand.gives c.args.self.now.past) in
    let into = expanded (g.E.Expand.gives c.args.self.now.into) in
    let passed : Alike c.in_ok-passed.passed (past c.args.delta.now) = rw c.in_ok-passed.was at c.both_ways-ways.ensures.past in
    let handed : Alike c.in_ok-passed.handed (into c.args.delta.now) = rw c.in_ok-passed.was at c.both_ways-ways.ensures.into in
    IfOk-imply c.add-made.result _ _
    (λ made alike run h above. routes_continued past into g.T.Time.leq (g.O.Operator.stands c.args.self.now.inner) (g.O.Operator.stands c.step.new.self) run (record { time = c.args.t; fed = c.args.delta.now; handed = c.in_ok-passed.handed; given = c.in_ok-given.given; made = made; charge = g.O.Operator.charge c.step.new.self - g.O.Operator.charge c.args.self.now.inner }) (record { handed = handed; made = Alike-trans alike (Alike-append passed (Alike-refl c.in_ok-given.given)) }) (λ r. c.in_ok-given.ensures.runs r) h above)
    c.add-made.ensures.alike
