-- Round 0 of a lap.
use Rattle.std.proofs.Common.{◌-◌}
use Rattle.loop_theory.specs.LoopLaws.{seal_below}
use Rattle.loop_theory.specs.Underway.{outer_above}
use Rattle.diff_iterate.proofs.Dues.{due_first, outer_due_first}
use Rattle.diff_iterate.proofs.Laps.{begun}
use Rattle.diff_iterate.proofs.lap.begin_lap.Goals as goal

pub step-requires-clause-run : goal.step-requires-clause-run
step-requires-clause-run g c = (_, c.requires.run.1, outer_above g.T.Time.leq c.args.t 0 _ c.requires.run.2)

pub step-requires-clause-due : goal.step-requires-clause-due
step-requires-clause-due g c = due_first g.T.Time.leq c.args.t (g.B.Operator.due c.args.body.now) c.requires.due

pub step-requires-clause-seal : goal.step-requires-clause-seal
step-requires-clause-seal g c = seal_below g.T.Time.leq (g.B.Operator.seal c.args.body.now) c.args.t 0 c.requires.level c.requires.seal

pub returns-clause-lap : goal.returns-clause-lap
returns-clause-lap g c = begun g.T.Time.leq (g.B.Operator.stands c.args.body.now) c.args.t (g.B.Operator.stands c.step.new.self) c.args.delta.now c.in_ok-moved.moved c.in_ok-made.made c.in_ok-gone.gone c.in_ok-change.change _ _ _ (g.B.Operator.charge c.step.new.self - g.B.Operator.charge c.args.body.now) (λ run. c.in_ok-made.ensures.runs run) c.in_ok-moved.ensures c.in_ok-gone.ensures.value c.in_ok-change.ensures.alike c.requires.entries c.in_ok-push_round.ensures c.in_ok-push_round-2.ensures

pub returns-clause-due : goal.returns-clause-due
returns-clause-due g c = outer_due_first g.T.Time.leq c.args.t 0 (g.B.Operator.due c.args.body.now) (g.B.Operator.due c.step.new.self) c.in_ok-made.ensures.due
