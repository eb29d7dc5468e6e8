-- The operator inside is sealed.
use Rattle.flow_core.specs.Expanded.{expanded}
use Rattle.flow_core.specs.Routes.{routes_sealed}
use Rattle.flow_core.proofs.Outcomes.{OnOk-imply}
use Rattle.flow_core.proofs.bypass.BypassOperator.seal.Goals as goal

pub returns-clause-runs : goal.returns-clause-runs
returns-clause-runs g c = OnOk-imply c.seal.result _ _
    (λ runs run h. routes_sealed (expanded (g.P.Expand.gives c.args.self.now.past)) (expanded (g.E.Expand.gives c.args.self.now.into)) (g.O.Operator.stands c.args.self.now.inner) (g.O.Operator.stands c.seal.new.self) run (g.O.Operator.charge c.args.self.now.inner) runs h)
    c.seal.ensures.runs
