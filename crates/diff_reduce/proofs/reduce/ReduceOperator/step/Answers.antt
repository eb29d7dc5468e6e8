-- A step that was taken is one of the run.
use Rattle.std.specs.Cmp.{tied_itself}
use Rattle.diff_reduce.specs.StepLaws.{step_stands}
use Rattle.diff_reduce.proofs.Outcomes.{IfOk-and_OnOk, IfOk-then_OnOk}
use Rattle.diff_reduce.proofs.Stepping.{stepped_due}
use Rattle.diff_reduce.proofs.reduce.ReduceOperator.step.Goals as goal

pub returns-clause-runs : goal.returns-clause-runs
returns-clause-runs g c = IfOk-and_OnOk c.advance-made.result c.advance-made.ensures.step c.advance-made.ensures.batch
    (λ made did batch run h above. rw c.advance-made.ensures.logic (step_stands g.T.Time.leq g.T.Time.lub g.met.T.Time.lattice g.T.Ord.cmp g.met.T.Record.same (tied_itself g.met.T.Ord.total) g.G.Key.Ord.cmp g.met.G.Key.Record.same (tied_itself g.met.G.Key.Ord.total) g.G.Value.Ord.cmp g.met.G.Value.Ord.total g.met.G.Value.Record.same g.G.Output.Ord.cmp g.met.G.Output.Ord.total g.met.G.Output.Record.same (g.G.KeyLogic.gives c.args.self.now.logic) (g.met.G.KeyLogic.nothing c.args.self.now.logic) _ _ run h c.args.t c.args.delta.now made did.0 did.1 above c.requires.seal c.requires.due batch))

pub returns-clause-due : goal.returns-clause-due
returns-clause-due g c = IfOk-then_OnOk c.advance-made.result c.advance-made.ensures.step
    (λ made did. stepped_due g.T.Time.leq g.T.Time.lub g.met.T.Time.lattice g.T.Ord.cmp g.G.Key.Ord.cmp g.G.Value.Ord.cmp g.G.Output.Ord.cmp (g.G.KeyLogic.gives c.args.self.now.logic) _ _ c.args.t c.args.delta.now made did.0 did.1)
