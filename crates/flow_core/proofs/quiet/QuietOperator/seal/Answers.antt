-- The operator inside is sealed.
use Rattle.flow_core.specs.Quietly.{quiet_sealed}
use Rattle.flow_core.proofs.Outcomes.{OnOk-imply}
use Rattle.flow_core.proofs.quiet.QuietOperator.seal.Goals as goal

pub returns-clause-runs : goal.returns-clause-runs
returns-clause-runs g c = OnOk-imply c.seal.result _ _
    (λ runs run h. quiet_sealed (g.O.Operator.stands c.args.self.now.inner) (g.O.Operator.stands c.seal.new.self) run (g.O.Operator.charge c.args.self.now.inner) runs h)
    c.seal.ensures.runs
