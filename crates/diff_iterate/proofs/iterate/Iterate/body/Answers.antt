-- What the body of a loop is fed and makes.
use Rattle.std.proofs.Common.{◌*◌}
use Rattle.loop_theory.specs.LoopLaws.{loop_rounds, none_outer}
use Rattle.diff_iterate.proofs.iterate.Iterate.body.Goals as goal

pub returns-clause-run : goal.returns-clause-run
returns-clause-run g c = λ run h. h.0

pub returns-clause-rounds : goal.returns-clause-rounds
returns-clause-rounds g c = λ run h t r low over below.
    loop_rounds g.T.Time.leq g.T.Time.lub (g.B.Operator.apply c.args.self.now.body) (g.met.B.Operator.respects c.args.self.now.body) (g.B.Operator.seal c.args.self.now.body) (g.B.Operator.due c.args.self.now.body) c.args.self.now.rounds h.0.laps (run.before * c.args.self.now.rounds) run.base h.0.each (g.met.B.Operator.answers c.args.self.now.body _ h.0.stands) t r low h.1 over (none_outer g.T.Time.leq t r (g.B.Operator.due c.args.self.now.body) below)
