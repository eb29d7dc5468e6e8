-- The first lemma on loops, with the laws that the body's type brings.
use Rattle.loop_theory.specs.LoopLaws.{loop_rounds}
use Rattle.loop_theory.proofs.laws.loop_laws.Goals as goal

pub returns : goal.returns
returns g c = λ rounds before base laps each stands t r low level over below.
    loop_rounds g.T.Time.leq g.T.Time.lub (g.B.Operator.apply c.args.body.now) (g.met.B.Operator.respects c.args.body.now) (g.B.Operator.seal c.args.body.now) (g.B.Operator.due c.args.body.now) rounds laps before base each (g.met.B.Operator.answers c.args.body.now _ stands) t r low level over below
