use Rattle.std.proofs.Common.{◌∙◌, subst}
use Rattle.view_versions.proofs.Stepping.{history-chosen, later-chosen}
use Rattle.view_versions.proofs.Turning.{former-size}
use Rattle.view_versions.specs.Edits.{taken_back}
use Rattle.view_versions.specs.Flags.{AreTwo}
use Rattle.view_versions.proofs.step.step_edited.Goals as goal

pub step_over-requires-clause-two : goal.step_over-requires-clause-two
step_over-requires-clause-two g c = subst (λ n. AreTwo n c.args.two.now) c.requires.setting.matrix c.requires.two

pub step_over-requires-clause-history : goal.step_over-requires-clause-history
step_over-requires-clause-history g c =
    let m = c.args.setting.matrix.now in
    history-chosen g.U.Updater.answer c.args.setting c.args.kernel.now c.requires.setting (taken_back m c.args.changes.now) c.args.run.now.view.0 c.args.two.now.old.items c.args.run.now.history
    (former-size m c.args.changes.now c.requires.edits ∙ c.requires.setting.matrix) c.requires.old c.requires.history

pub returns-clause-step : goal.returns-clause-step
returns-clause-step g c =
    let m = c.args.setting.matrix.now in
    let v = c.args.run.now.view.0 in
    let two = c.args.two.now in
    later-chosen g.U.Updater.answer c.args.setting c.args.kernel.now c.requires.setting (taken_back m c.args.changes.now) m v v two.old.items two.new.items c.step_over.result
    (former-size m c.args.changes.now c.requires.edits ∙ c.requires.setting.matrix) c.requires.setting.matrix c.requires.old c.requires.new c.step_over.ensures.step
