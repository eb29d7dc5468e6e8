use Rattle.flow_rows.specs.Driven.{Drives}
use Rattle.flow_rows.proofs.drive.driven.Given as goal

abbrev pub invariant-loop-change : goal.invariant-loop-change
invariant-loop-change g l = Drives g.O.Operator.stands g.O.Operator.seal g.O.Operator.spent l.operator l.times l.seal
