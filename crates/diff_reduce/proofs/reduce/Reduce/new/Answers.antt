-- Nothing was fed yet.
use Rattle.std.proofs.Common.{refl}
use Rattle.std.specs.Cmp.{tied_itself}
use Rattle.diff_reduce.specs.StepLaws.{fresh_stands}
use Rattle.diff_reduce.proofs.reduce.Reduce.new.Goals as goal

pub returns-clause-fresh : goal.returns-clause-fresh
returns-clause-fresh g c = record {
  is_new = rw (c.new.ensures, c.new-2.ensures, c.new-3.ensures, c.new-4.ensures, c.new-5.ensures) (fresh_stands g.T.Time.leq g.T.Time.lub g.met.T.Time.lattice g.T.Ord.cmp g.met.T.Record.same (tied_itself g.met.T.Ord.total) g.G.Key.Ord.cmp g.met.G.Key.Record.same (tied_itself g.met.G.Key.Ord.total) g.G.Value.Ord.cmp g.met.G.Value.Ord.total g.met.G.Value.Record.same g.G.Output.Ord.cmp g.met.G.Output.Ord.total g.met.G.Output.Record.same (g.G.KeyLogic.gives c.args.logic) (g.met.G.KeyLogic.nothing c.args.logic) c.least.result);
  nothing_due = rw c.new-4.ensures refl;
  at_least = c.least.ensures;
  live = refl;
}
