-- Where nothing is fed, only what is due counts.
use Rattle.std.proofs.Common.{sym, subst}
use Rattle.flow_core.specs.Runs.{NoneBelow}
use Rattle.loop_theory.specs.Loops.{pair_leq, pair_of}
use Rattle.diff_iterate.proofs.Dues.{none_before}
use Rattle.diff_iterate.proofs.busy.busy_round.Goals as goal

pub returns-in-Some-clause-idle : goal.returns-in-Some-clause-idle
returns-in-Some-clause-idle g c = λ k from low. none_before g.T.Ord.cmp g.met.T.Ord.total g.T.Time.leq g.met.T.Time.in_order (g.B.Operator.due c.args.body.now) c.in-Some.due (pair_of c.args.t k) c.in-Some.ensures.1 (c.due_round.ensures.before k from low)

pub returns-in-None-clause-idle : goal.returns-in-None-clause-idle
returns-in-None-clause-idle g c = λ k from low. subst (λ v. NoneBelow (pair_leq g.T.Time.leq) (pair_of c.args.t k) v) (sym c.in-None.ensures) tt
