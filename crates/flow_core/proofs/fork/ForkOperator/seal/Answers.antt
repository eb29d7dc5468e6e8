-- Both parts are sealed.
use Rattle.std.proofs.Common.{sym, ◌∙◌, refl}
use Rattle.flow_core.specs.Lists.{front_empty, back_empty}
use Rattle.flow_core.specs.Parts.{branch_whole, branch_first, branch_second}
use Rattle.flow_core.specs.PartLaws.{parts_sealed}
use Rattle.flow_core.proofs.Outcomes.{OnOk-two}
use Rattle.flow_core.proofs.fork.ForkOperator.seal.Goals as goal

pub seal-requires-clause-due : goal.seal-requires-clause-due
seal-requires-clause-due g c = front_empty _ _ c.requires.due

pub seal-requires-2-clause-due : goal.seal-requires-2-clause-due
seal-requires-2-clause-due g c = back_empty (g.A.Operator.due c.args.self.now.first) (g.B.Operator.due c.args.self.now.second) c.requires.due

pub returns-clause-runs : goal.returns-clause-runs
returns-clause-runs g c = OnOk-two c.seal-2.result _ _ _
    (λ second level run h. (parts_sealed branch_whole branch_first branch_second (λ _. refl) (λ _. refl) (g.A.Operator.stands c.args.self.now.first) (g.A.Operator.stands c.seal.new.self) (g.B.Operator.stands c.args.self.now.second) (g.B.Operator.stands c.seal-2.new.self) run (g.A.Operator.charge c.args.self.now.first) (g.B.Operator.charge c.args.self.now.second) (λ r. c.in_ok-seal.ensures.runs r) (λ r. second r) h.0, level ∙ sym c.in_ok-seal.ensures.seal))
    c.seal-2.ensures.runs c.seal-2.ensures.seal
