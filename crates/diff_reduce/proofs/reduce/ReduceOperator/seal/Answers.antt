-- A seal is one of the run.
use Rattle.std.specs.Cmp.{tied_itself}
use Rattle.diff_reduce.specs.StepLaws.{seal_stands}
use Rattle.diff_reduce.proofs.Outcomes.{OnOk-imply}
use Rattle.diff_reduce.proofs.reduce.ReduceOperator.seal.Goals as goal

pub returns-clause-runs : goal.returns-clause-runs
returns-clause-runs g c = OnOk-imply c.close-done.result _ _
    (λ did run h. rw c.close-done.ensures.logic (seal_stands g.T.Time.leq g.T.Time.lub g.met.T.Time.lattice g.T.Ord.cmp g.met.T.Record.same (tied_itself g.met.T.Ord.total) g.G.Key.Ord.cmp g.met.G.Key.Record.same (tied_itself g.met.G.Key.Ord.total) g.G.Value.Ord.cmp g.met.G.Value.Ord.total g.met.G.Value.Record.same g.G.Output.Ord.cmp g.met.G.Output.Ord.total g.met.G.Output.Record.same (g.G.KeyLogic.gives c.args.self.now.logic) (g.met.G.KeyLogic.nothing c.args.self.now.logic) _ _ run c.args.f h did c.requires.due c.requires.seal))
    c.close-done.ensures.seal
