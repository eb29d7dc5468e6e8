use Rattle.std.proofs.Common.{◌-◌, ℕ, Option, length, get_or, refl, sym, subst}
use Rattle.view_segment.specs.Steps.{IsStep, flags_of, task_in}
use Rattle.view_segment.proofs.Choosing.{flags-tell}
use Rattle.view_segment.proofs.Lasting.{nothing, some-before, kept-before}
use Rattle.view_segment.proofs.segment.Segment.step_view.Goals as goal

pub step_later-requires-clause-history : goal.step_later-requires-clause-history
step_later-requires-clause-history g c =
    (some-before (task_in g.U.Updater.answer c.args.setting) c.args.self.now c.in-Some.history c.as_slice.result.now c.len.result c.requires.stands c.requires.history c.in-Some.is c.as_slice.ensures c.len.ensures).1

pub step_later-requires-clause-kept : goal.step_later-requires-clause-kept
step_later-requires-clause-kept g c =
    let s = c.args.setting in
    let task = task_in g.U.Updater.answer s in
    let last = (some-before task c.args.self.now c.in-Some.history c.as_slice.result.now c.len.result c.requires.stands c.requires.history c.in-Some.is c.as_slice.ensures c.len.ensures).0 in
    let u = (get_or c.as_slice.result.now (c.len.result - 1) nothing).0 in
    kept-before task c.args.self.now u c.args.self.now.flags (flags_of s.matrix.now u) c.requires.stands last refl (flags-tell s.matrix.now u (length s.plan.graph.now.ends) c.requires.setting.matrix)

pub returns-in_ok-made-in-Some-clause-before : goal.returns-in_ok-made-in-Some-clause-before
returns-in_ok-made-in-Some-clause-before g c =
    sym (some-before (task_in g.U.Updater.answer c.args.setting) c.args.self.now c.in-Some.history c.as_slice.result.now c.len.result c.requires.stands c.requires.history c.in-Some.is c.as_slice.ensures c.len.ensures).0

pub returns-in_ok-made-in-Some-clause-step : goal.returns-in_ok-made-in-Some-clause-step
returns-in_ok-made-in-Some-clause-step g c =
    subst (λ (o : Option ℕ). IsStep (task_in g.U.Updater.answer c.args.setting) o c.args.view.0 c.in_ok-made-in-Some.made.ended)
    (sym (some-before (task_in g.U.Updater.answer c.args.setting) c.args.self.now c.in-Some.history c.as_slice.result.now c.len.result c.requires.stands c.requires.history c.in-Some.is c.as_slice.ensures c.len.ensures).0)
    c.in_ok-made-in-Some.ensures.step
