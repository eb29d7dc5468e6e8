-- The laws that the operator's type brings.
use Rattle.flow_core.proofs.laws.lawful.Goals as goal

pub returns : goal.returns
returns g c = record {
  answers = g.met.O.Operator.answers c.args.operator.now;
  respects = g.met.O.Operator.respects c.args.operator.now;
  idle = g.met.O.Operator.idle c.args.operator.now;
  paid = g.met.O.Operator.paid c.args.operator.now;
}
