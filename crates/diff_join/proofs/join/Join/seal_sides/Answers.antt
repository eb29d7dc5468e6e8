-- Both traces are sealed.
use Rattle.trace_store.specs.Traces.{trace_cmp}
use Rattle.diff_join.specs.RunLaws.{join_sealed}
use Rattle.diff_join.proofs.join.Join.seal_sides.Goals as goal

pub returns-clause-runs : goal.returns-clause-runs
returns-clause-runs g c = λ run h. join_sealed g.met.T.Time.lattice g.K.Ord.cmp (g.F.Pairing.gives c.args.self.now.pairing) (trace_cmp g.K.Ord.cmp g.A.Ord.cmp g.T.Ord.cmp) (trace_cmp g.K.Ord.cmp g.B.Ord.cmp g.T.Ord.cmp) c.args.self.now.sealed c.args.f c.args.self.now.left.items c.seal.new.self.items c.args.self.now.right.items c.seal-2.new.self.items c.args.self.now.kept run c.requires.seal c.requires.due c.in_ok-seal.ensures.value c.in_ok-seal.ensures.sums c.in_ok-seal-2.ensures.value c.in_ok-seal-2.ensures.sums h
