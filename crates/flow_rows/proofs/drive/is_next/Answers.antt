-- Nothing is due before this time.
use Rattle.std.proofs.Common.{◌∙◌, IsTrue, ap, subst}
use Rattle.std.specs.Ordering.{is_ge}
use Rattle.flow_rows.proofs.Order.{only_there}
use Rattle.flow_rows.proofs.drive.is_next.Goals as goal

pub returns-in-Some : goal.returns-in-Some
returns-in-Some g c = λ h.
    only_there g.T.Ord.cmp g.met.T.Ord.total g.met.T.Record.same g.T.Time.leq g.met.T.Time.in_order (g.O.Operator.due c.args.operator.now) c.in-Some.due c.args.t (rw c.in-Some.is at c.next_due.ensures).1 (subst (λ b. IsTrue b) (c.is_ge.ensures ∙ ap is_ge c.cmp.ensures) h)
