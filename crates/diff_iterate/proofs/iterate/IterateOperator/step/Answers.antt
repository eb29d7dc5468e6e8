-- A lap of the body.
use Rattle.std.proofs.Common.{◌≡◌, ◌-◌, IsTrue, ap, subst, ◌∙◌}
use Rattle.flow_core.specs.Runs.{NoneAbove, times_of}
use Rattle.loop_theory.specs.Loops.{loop_apply}
use Rattle.loop_theory.specs.TimeLaws.{laps_above}
use Rattle.loop_theory.specs.Underway.{laps_continued}
use Rattle.diff_iterate.proofs.Dues.{outer_of_due, due_of_outer}
use Rattle.diff_iterate.proofs.Outcomes.{IfOk-and_OnOk, OnOk-imply, live_still, spent_now, or_second}
use Rattle.diff_iterate.proofs.iterate.IterateOperator.step.Goals as goal

pub take_lap-made-requires-clause-run : goal.take_lap-made-requires-clause-run
take_lap-made-requires-clause-run g c =
    let stands = c.requires.run.1.0 in
    (_, stands.stands, laps_above c.args.self.now.rounds g.T.Time.leq stands.laps c.args.t (subst (λ v. NoneAbove g.T.Time.leq c.args.t (times_of v)) stands.steps c.requires.run.2))

pub take_lap-made-requires-clause-due : goal.take_lap-made-requires-clause-due
take_lap-made-requires-clause-due g c = outer_of_due (λ d. IsTrue (g.T.Time.leq d c.args.t) → d ≡ c.args.t) (g.B.Operator.due c.args.self.now.body) c.requires.due

pub take_lap-made-requires-clause-level : goal.take_lap-made-requires-clause-level
take_lap-made-requires-clause-level g c = c.requires.run.1.1

pub take_lap-made-requires-clause-live : goal.take_lap-made-requires-clause-live
take_lap-made-requires-clause-live g c = or_second c.args.self.now.broken (g.B.Operator.spent c.args.self.now.body) c.requires.live

pub returns-clause-runs : goal.returns-clause-runs
returns-clause-runs g c = IfOk-and_OnOk c.take_lap-made.result _ _ _
    (λ made lap seal run h above. (laps_continued g.T.Time.leq (g.B.Operator.stands c.args.self.now.body) (g.B.Operator.stands c.take_lap-made.new.body) c.args.self.now.rounds run c.args.t c.args.delta.now lap.0 made (g.B.Operator.charge c.take_lap-made.new.body - g.B.Operator.charge c.args.self.now.body) lap.1 h.0 above, ap (λ v. v.inner.0) seal ∙ h.1))
    c.take_lap-made.ensures.lap c.take_lap-made.ensures.seal

pub returns-clause-due : goal.returns-clause-due
returns-clause-due g c = OnOk-imply c.take_lap-made.result _ _ (due_of_outer g.T.Time.leq c.args.t (g.B.Operator.due c.args.self.now.body) (g.B.Operator.due c.take_lap-made.new.body)) c.take_lap-made.ensures.due

pub returns-clause-seal : goal.returns-clause-seal
returns-clause-seal g c = OnOk-imply c.take_lap-made.result _ _ (λ seal. ap (λ v. v.outer) seal) c.take_lap-made.ensures.seal

pub returns-clause-live : goal.returns-clause-live
returns-clause-live g c = live_still c.take_lap-made.result c.is_err-self.result (g.B.Operator.spent c.take_lap-made.new.body) c.is_err-self.ensures.value c.take_lap-made.ensures.live

pub returns-clause-spent : goal.returns-clause-spent
returns-clause-spent g c = spent_now c.take_lap-made.result c.is_err-self.result (g.B.Operator.spent c.take_lap-made.new.body) c.is_err-self.ensures.value

pub returns-clause-apply : goal.returns-clause-apply
returns-clause-apply g c = ap (λ f. loop_apply f c.args.self.now.rounds) c.take_lap-made.ensures.apply

pub returns-clause-kept : goal.returns-clause-kept
returns-clause-kept g c = ap (λ k. (k, c.args.self.now.rounds)) c.take_lap-made.ensures.kept
