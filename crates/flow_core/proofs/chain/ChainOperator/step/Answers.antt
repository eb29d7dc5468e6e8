-- Both parts are stepped, the second with what the first made.
use Rattle.std.proofs.Common.{◌≡◌, ◌-◌, IsTrue, sym, subst, ◌∙◌, refl}
use Rattle.flow_core.specs.Lists.{Every-append_front, Every-append_back, due_both}
use Rattle.flow_core.specs.Runs.{continued}
use Rattle.flow_core.specs.Parts.{StandsByLinks, link_whole, link_first, link_second}
use Rattle.flow_core.specs.PartLaws.{parts_above_first, parts_above_second, parts_continued, both_rise}
use Rattle.flow_core.proofs.Outcomes.{IfOk-and_OnOk, OnOk-imply}
use Rattle.flow_core.proofs.chain.ChainOperator.step.Goals as goal

pub step-requires-clause-run : goal.step-requires-clause-run
step-requires-clause-run g c =
    let run = c.requires.run.0 in
    let parts = c.requires.run.1.0 in
    (_, parts.first_run, parts_above_first link_whole link_first link_second (λ _. refl) (λ _. refl) g.T.Time.leq parts.links run.steps c.args.t parts.steps c.requires.run.2)

pub step-requires-clause-due : goal.step-requires-clause-due
step-requires-clause-due g c = Every-append_front (λ d. IsTrue (g.T.Time.leq d c.args.t) → d ≡ c.args.t) (g.A.Operator.due c.args.self.now.first) (g.B.Operator.due c.args.self.now.second) c.requires.due

pub step-requires-2-clause-run : goal.step-requires-2-clause-run
step-requires-2-clause-run g c =
    let run = c.requires.run.0 in
    let parts = c.requires.run.1.0 in
    (_, parts.second_run, parts_above_second link_whole link_first link_second (λ _. refl) (λ _. refl) g.T.Time.leq parts.links run.steps c.args.t parts.steps c.requires.run.2)

pub step-requires-2-clause-due : goal.step-requires-2-clause-due
step-requires-2-clause-due g c = Every-append_back (λ d. IsTrue (g.T.Time.leq d c.args.t) → d ≡ c.args.t) (g.A.Operator.due c.args.self.now.first) (g.B.Operator.due c.args.self.now.second) c.requires.due

pub returns-clause-runs : goal.returns-clause-runs
returns-clause-runs g c = IfOk-and_OnOk c.step-2.result _ _ _
    (λ made second still run h above. (subst (λ n. StandsByLinks (g.A.Operator.stands c.step.new.self) (g.B.Operator.stands c.step-2.new.self) (continued run c.args.t c.args.delta.now made n)) (both_rise (g.A.Operator.charge c.args.self.now.first) (g.A.Operator.charge c.step.new.self) (g.B.Operator.charge c.args.self.now.second) (g.B.Operator.charge c.step-2.new.self) c.step.ensures.charge c.step-2.ensures.charge) (parts_continued link_whole link_first link_second (λ _. refl) (λ _. refl) g.T.Time.leq (g.A.Operator.stands c.args.self.now.first) (g.A.Operator.stands c.step.new.self) (g.B.Operator.stands c.args.self.now.second) (g.B.Operator.stands c.step-2.new.self) run (record { time = c.args.t; fed = c.args.delta.now; handed = c.in_ok-handed.handed; made = made; first_charge = g.A.Operator.charge c.step.new.self - g.A.Operator.charge c.args.self.now.first; second_charge = g.B.Operator.charge c.step-2.new.self - g.B.Operator.charge c.args.self.now.second }) (λ r. c.in_ok-handed.ensures.runs r) (λ r. second r) h.0 above), still ∙ h.1 ∙ sym c.in_ok-handed.ensures.seal))
    c.step-2.ensures.runs c.step-2.ensures.seal

pub returns-clause-due : goal.returns-clause-due
returns-clause-due g c = OnOk-imply c.step-2.result _ _
    (due_both (g.T.Time.leq c.args.t) (g.A.Operator.due c.args.self.now.first) (g.B.Operator.due c.args.self.now.second) (g.A.Operator.due c.step.new.self) (g.B.Operator.due c.step-2.new.self) c.in_ok-handed.ensures.due)
    c.step-2.ensures.due
