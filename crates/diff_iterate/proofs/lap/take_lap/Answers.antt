-- The later rounds of a lap, of which some are skipped.
use Rattle.std.proofs.Common.{◌≡◌, ◌∙◌, ◌+◌, ◌-◌, ◌≤◌, length, arith, subst}
use Rattle.weighted.specs.Alike.{Alike}
use Rattle.loop_theory.specs.Loops.{pair_of}
use Rattle.loop_theory.specs.Underway.{above_next}
use Rattle.diff_iterate.proofs.Dues.{due_next, outer_due_more, outer_due_is}
use Rattle.diff_iterate.proofs.Laps.{taken, skipped, finished, kept_below}
use Rattle.diff_iterate.proofs.Outcomes.{IfOk-imply, OnOk-any}
use Rattle.diff_iterate.proofs.lap.take_lap.Goals as goal

pub loop-round-init : goal.loop-round-init
loop-round-init g c = record {
  lap = skipped g.T.Time.leq (g.B.Operator.stands c.args.body.now) c.args.t (g.B.Operator.stands c.begin_lap.new.body) (g.B.Operator.due c.begin_lap.new.body) c.args.delta.now 1 c.busy_round-round.result c.in_ok-change.change c.begin_lap.new.entries.items (g.B.Operator.charge c.begin_lap.new.body - g.B.Operator.charge c.args.body.now)
      (λ k run h above below. g.met.B.Operator.idle c.begin_lap.new.body run (pair_of c.args.t k) h above (kept_below g.T.Time.leq c.args.t (g.B.Operator.seal c.args.body.now) (g.B.Operator.seal c.begin_lap.new.body) c.in_ok-change.ensures.seal c.requires.level c.requires.seal k) below)
      (omega arith) c.busy_round-round.ensures.from c.busy_round-round.ensures.empty c.busy_round-round.ensures.idle c.in_ok-change.ensures.lap;
  some = omega (arith, c.busy_round-round.ensures.from);
  most = c.busy_round-round.ensures.to;
  due = c.in_ok-change.ensures.due;
  seal = c.in_ok-change.ensures.seal;
  live = c.in_ok-change.ensures.live;
  apply = c.begin_lap.ensures.apply;
  kept = c.begin_lap.ensures.kept;
  charge = c.begin_lap.ensures.charge;
  calls = c.begin_lap.ensures.calls;
  cost = c.begin_lap.ensures.cost;
}

pub step-requires-clause-run : goal.step-requires-clause-run
step-requires-clause-run g c =
    let lap = c.loop-round.invariant.lap in
    let run = c.requires.run in
    let short : length lap.taken ≤ c.loop-round.round = omega (arith, lap.count) in
    (_, lap.runs run.0 run.1 run.2, above_next g.T.Time.leq c.args.t c.loop-round.round run.0 lap.taken short run.2)

pub step-requires-clause-due : goal.step-requires-clause-due
step-requires-clause-due g c =
    let lap = c.loop-round.invariant.lap in
    let run = c.requires.run in
    let ahead = (g.met.B.Operator.answers c.loop-round.body _ (lap.runs run.0 run.1 run.2)).ahead in
    let outer = outer_due_is g.T.Time.leq c.args.t g.T.Time.lub g.met.T.Time.lattice (g.B.Operator.due c.args.body.now) (g.B.Operator.due c.loop-round.body) c.requires.due c.loop-round.invariant.due in
    due_next g.T.Time.leq c.args.t c.loop-round.round (g.B.Operator.due c.loop-round.body) run.0 lap.taken c.loop-round.invariant.some lap.count ahead outer

pub step-requires-clause-seal : goal.step-requires-clause-seal
step-requires-clause-seal g c = kept_below g.T.Time.leq c.args.t (g.B.Operator.seal c.args.body.now) (g.B.Operator.seal c.loop-round.body) c.loop-round.invariant.seal c.requires.level c.requires.seal c.loop-round.round

pub loop-round-preserved : goal.loop-round-preserved
loop-round-preserved g c =
    let seal : g.B.Operator.seal c.step.new.self ≡ g.B.Operator.seal c.args.body.now = c.in_ok-made.ensures.seal ∙ c.loop-round.invariant.seal in
    record {
      lap = skipped g.T.Time.leq (g.B.Operator.stands c.args.body.now) c.args.t (g.B.Operator.stands c.step.new.self) (g.B.Operator.due c.step.new.self) c.args.delta.now (c.loop-round.round + 1) c.busy_round-next.result c.in_ok-made.made c.push_round.new.entries.items (g.B.Operator.charge c.step.new.self - g.B.Operator.charge c.args.body.now)
          (λ k run h above below. g.met.B.Operator.idle c.step.new.self run (pair_of c.args.t k) h above (kept_below g.T.Time.leq c.args.t (g.B.Operator.seal c.args.body.now) (g.B.Operator.seal c.step.new.self) seal c.requires.level c.requires.seal k) below)
          (omega arith) c.busy_round-next.ensures.from c.busy_round-next.ensures.empty c.busy_round-next.ensures.idle
          (taken g.T.Time.leq (g.B.Operator.stands c.args.body.now) c.args.t (g.B.Operator.stands c.loop-round.body) (g.B.Operator.stands c.step.new.self) c.args.delta.now c.in_ok-feed.feed c.loop-round.round c.loop-round.change c.in_ok-made.made c.loop-round.entries.items c.push_round.new.entries.items (g.B.Operator.charge c.args.body.now) (g.B.Operator.charge c.loop-round.body) (g.B.Operator.charge c.step.new.self) c.loop-round.invariant.charge c.step.ensures.charge c.loop-round.invariant.lap c.loop-round.invariant.some c.in_ok-feed.ensures (λ run. c.in_ok-made.ensures.runs run) c.in_ok-push_round.ensures);
      some = omega (arith, c.busy_round-next.ensures.from);
      most = c.busy_round-next.ensures.to;
      due = outer_due_more g.T.Time.leq c.args.t c.loop-round.round (g.B.Operator.due c.args.body.now) (g.B.Operator.due c.loop-round.body) (g.B.Operator.due c.step.new.self) c.loop-round.invariant.due c.in_ok-made.ensures.due;
      seal = seal;
      live = c.in_ok-made.ensures.live;
      apply = c.step.ensures.apply ∙ c.loop-round.invariant.apply;
      kept = c.step.ensures.kept ∙ c.loop-round.invariant.kept;
      charge = omega (arith, c.step.ensures.charge, c.loop-round.invariant.charge);
      calls = omega (arith, c.step.ensures.calls, c.loop-round.invariant.calls);
      cost = omega (arith, c.step.ensures.cost, c.loop-round.invariant.cost);
    }

pub returns-clause-lap : goal.returns-clause-lap
returns-clause-lap g c = IfOk-imply c.from_entries.result _ _
    (λ made alike. finished g.T.Time.leq (g.B.Operator.stands c.args.body.now) c.args.t (g.B.Operator.stands c.loop-round.body) c.args.delta.now c.loop-round.round c.args.rounds c.loop-round.change c.loop-round.entries.items made (g.B.Operator.charge c.loop-round.body - g.B.Operator.charge c.args.body.now) c.loop-round.invariant.most c.loop-round-test.false c.loop-round.invariant.lap (subst (λ v. Alike made v) c.from_vec.ensures alike))
    c.from_entries.ensures.alike

pub returns-clause-due : goal.returns-clause-due
returns-clause-due g c = OnOk-any c.from_entries.result _ c.loop-round.invariant.due
