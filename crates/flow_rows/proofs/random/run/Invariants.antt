use Rattle.flow_rows.specs.Driven.{Drives}
use Rattle.flow_rows.proofs.random.run.Given as goal

abbrev pub invariant-loop : goal.invariant-loop
invariant-loop g l = Drives g.O.Operator.stands g.O.Operator.seal g.O.Operator.spent l.operator l.times l.seal
