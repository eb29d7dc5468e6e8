-- The body is sealed at round 0.
use Rattle.std.proofs.Common.{ap}
use Rattle.std.specs.Prelude.{map}
use Rattle.loop_theory.specs.Loops.{loop_apply}
use Rattle.loop_theory.specs.LoopLaws.{seal_below}
use Rattle.loop_theory.specs.RunLaws.{laps_sealed}
use Rattle.diff_iterate.proofs.Dues.{no_outer_due}
use Rattle.diff_iterate.proofs.Outcomes.{OnOk-imply, OnOk-two, or_second}
use Rattle.diff_iterate.proofs.iterate.IterateOperator.seal.Goals as goal

pub seal-requires-clause-seal : goal.seal-requires-clause-seal
seal-requires-clause-seal g c = seal_below g.T.Time.leq (g.B.Operator.seal c.args.self.now.body) c.args.f 0 (c.args.self.now.level (or_second c.args.self.now.broken (g.B.Operator.spent c.args.self.now.body) c.requires.live)) c.requires.seal

pub seal-requires-clause-due : goal.seal-requires-clause-due
seal-requires-clause-due g c = no_outer_due (g.B.Operator.due c.args.self.now.body) c.requires.due

pub seal-requires-clause-live : goal.seal-requires-clause-live
seal-requires-clause-live g c = or_second c.args.self.now.broken (g.B.Operator.spent c.args.self.now.body) c.requires.live

pub returns-clause-runs : goal.returns-clause-runs
returns-clause-runs g c = OnOk-two c.seal.result _ _ _
    (λ runs sealed run h. (laps_sealed (g.B.Operator.stands c.args.self.now.body) (g.B.Operator.stands c.seal.new.self) c.args.self.now.rounds (g.B.Operator.charge c.args.self.now.body) run (λ r. runs r) h.0, ap (λ v. v.inner.0) sealed))
    c.seal.ensures.runs c.seal.ensures.seal

pub returns-clause-seal : goal.returns-clause-seal
returns-clause-seal g c = OnOk-imply c.seal.result _ _ (λ sealed. ap (λ v. v.outer) sealed) c.seal.ensures.seal

pub returns-clause-due : goal.returns-clause-due
returns-clause-due g c = OnOk-imply c.seal.result _ _ (λ none. ap (map (λ d. d.outer)) none) c.seal.ensures.due

pub returns-clause-apply : goal.returns-clause-apply
returns-clause-apply g c = ap (λ f. loop_apply f c.args.self.now.rounds) c.seal.ensures.apply

pub returns-clause-kept : goal.returns-clause-kept
returns-clause-kept g c = ap (λ k. (k, c.args.self.now.rounds)) c.seal.ensures.kept
