-- The operator inside is stepped.
use Rattle.std.proofs.Common.{◌-◌}
use Rattle.flow_core.specs.Quietly.{quiet_above, quiet_continued}
use Rattle.flow_core.proofs.Outcomes.{IfOk-imply}
use Rattle.flow_core.proofs.quiet.QuietOperator.step.Goals as goal

pub step-requires-clause-run : goal.step-requires-clause-run
step-requires-clause-run g c =
    let run = c.requires.run.0 in
    let quiet = c.requires.run.1 in
    (_, quiet.inner, quiet_above g.T.Time.leq c.args.t quiet.charged run.steps quiet.steps c.requires.run.2)

pub returns-clause-runs : goal.returns-clause-runs
returns-clause-runs g c = IfOk-imply c.step.result _ _
    (λ made runs run h above. quiet_continued g.T.Time.leq (g.O.Operator.stands c.args.self.now.inner) (g.O.Operator.stands c.step.new.self) run c.args.t c.args.delta.now made (g.O.Operator.charge c.step.new.self - g.O.Operator.charge c.args.self.now.inner) runs h above)
    c.step.ensures.runs
