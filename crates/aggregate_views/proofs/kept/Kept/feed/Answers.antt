-- One step more.
use Rattle.std.proofs.Common.{◌≡◌, ◌+◌, ◌-◌, ◌++◌, IsTrue, arith, sym, subst, refl}
use Rattle.flow_core.specs.Runs.{Every, times_of}
use Rattle.aggregate_views.specs.Keeping.{below}
use Rattle.aggregate_views.proofs.Stepped.{fed_after, is_le, none_above}
use Rattle.aggregate_views.proofs.kept.Kept.feed.Goals as goal

pub step-requires-clause-run : goal.step-requires-clause-run
step-requires-clause-run g c =
    let f = c.requires.fed.1 in
    (f.run, f.is_run, none_above c.args.self.now.at (record { 0 = c.args.self.now.at + 1 }) (times_of f.run.steps) f.to.times (omega arith))

pub step-requires-clause-due : goal.step-requires-clause-due
step-requires-clause-due g c = subst (λ v. Every (λ d. IsTrue (below d (record { 0 = c.args.self.now.at + 1 })) → d ≡ record { 0 = c.args.self.now.at + 1 }) v) (sym c.requires.fed.1.nothing_due) tt

pub step-requires-clause-seal : goal.step-requires-clause-seal
step-requires-clause-seal g c = is_le _ _ (omega (arith, c.requires.fed.1.low))

pub rest-requires : goal.rest-requires
rest-requires g c = (c.requires.fed.0 ++ c.args.delta.now, fed_after g.O.Operator.stands g.O.Operator.due g.O.Operator.seal g.O.Operator.spent c.args.self.now.operator c.step.new.self c.args.self.now.at c.args.self.now.held c.in_ok-made.made c.add.new.self c.requires.fed.0 c.args.delta.now (record { 0 = c.args.self.now.at + 1 }) (g.O.Operator.charge c.step.new.self - g.O.Operator.charge c.args.self.now.operator) c.in_ok-made.ensures.runs c.settled.ensures.due c.in_ok-made.ensures.seal c.in_ok-made.ensures.live refl c.in_ok-add.ensures c.requires.fed.1)

pub returns-clause-fed : goal.returns-clause-fed
returns-clause-fed g c = λ fed f. c.in_ok-rest.ensures.fed (fed ++ c.args.delta.now) (fed_after g.O.Operator.stands g.O.Operator.due g.O.Operator.seal g.O.Operator.spent c.args.self.now.operator c.step.new.self c.args.self.now.at c.args.self.now.held c.in_ok-made.made c.add.new.self fed c.args.delta.now (record { 0 = c.args.self.now.at + 1 }) (g.O.Operator.charge c.step.new.self - g.O.Operator.charge c.args.self.now.operator) c.in_ok-made.ensures.runs c.settled.ensures.due c.in_ok-made.ensures.seal c.in_ok-made.ensures.live refl c.in_ok-add.ensures f)
