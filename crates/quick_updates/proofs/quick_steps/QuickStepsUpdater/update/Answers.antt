use Rattle.std.proofs.Common.{◌∙◌, ap}
use Rattle.vertex_lang.specs.Values.{in_range}
use Rattle.quick_updates.proofs.Updates.{least_updated, damped_updated}
use Rattle.quick_updates.proofs.quick_steps.QuickStepsUpdater.update.Goals as goal

pub returns-in-Least-clause-answer : goal.returns-in-Least-clause-answer
returns-in-Least-clause-answer g c = least_updated c.args.program.now c.args.id c.args.start c.args.value c.args.gathered c.args.count c.counted.result c.in-Least.ensures (c.counted.ensures.value ∙ c.clamp.ensures ∙ ap in_range c.lesser_of.ensures)

pub returns-in-Damped-clause-answer : goal.returns-in-Damped-clause-answer
returns-in-Damped-clause-answer g c =
    let d = c.in-Damped.damping in
    damped_updated c.args.program.now c.args.id c.args.start c.args.value c.args.gathered c.args.count c.counted-in-Damped.result d.base d.factor d.divisor c.in-Damped.ensures (c.counted-in-Damped.ensures.value ∙ c.damped.ensures)
