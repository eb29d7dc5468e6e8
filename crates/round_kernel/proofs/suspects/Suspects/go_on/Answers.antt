use Rattle.std.proofs.Common.{◌∙◌, ◌+◌, List, subst, sym}
use Rattle.change_lists.specs.declared.history.Change.{Change}
use Rattle.change_lists.specs.ChangeLists.{HasChanges}
use Rattle.round_kernel.specs.Frames.{AreStirred, count_in, lone_at}
use Rattle.round_kernel.proofs.Flagging.{apart-all, apart-listed, told-next}
use Rattle.round_kernel.proofs.suspects.Suspects.go_on.Goals as goal

pub returns-then-made : goal.returns-then-made
returns-then-made g c =
    let answer = g.U.Updater.answer in
    let f = c.args.frame in
    let r = c.args.round in
    let lists = c.args.lists.now in
    let new = c.changed.result.now in
    let has = subst (λ (cs : List Change). HasChanges (count_in f) (lone_at answer f r) (lone_at answer f (r + 1)) cs) (sym c.changed.ensures) c.requires.made.changes in
    told-next answer f r lists c.requires.frame c.requires.round c.requires.at new has
    c.args.self.now c.move_all.new.self c.part_all.new.self c.requires.suspects c.move_all.ensures.apart c.move_all.ensures.size c.move_all.ensures.moved c.part_all.ensures.apart.size
    (apart-listed answer f r lists c.requires.frame c.requires.round c.requires.at new has c.as_slice.result.now (subst (λ (cs : List Change). AreStirred answer f r cs) (sym c.as_slice.ensures) (c.requires.made.stirred c.if-made.true))
    c.args.self.now c.move_all.new.self c.part_all.new.self c.requires.suspects c.move_all.ensures.apart c.part_all.ensures.apart)
    c.part_all.ensures.moved (c.part_all.ensures.turned ∙ c.move_all.ensures.turned)

pub returns-else-made : goal.returns-else-made
returns-else-made g c =
    let answer = g.U.Updater.answer in
    let f = c.args.frame in
    let r = c.args.round in
    let lists = c.args.lists.now in
    let new = c.changed.result.now in
    let has = subst (λ (cs : List Change). HasChanges (count_in f) (lone_at answer f r) (lone_at answer f (r + 1)) cs) (sym c.changed.ensures) c.requires.made.changes in
    told-next answer f r lists c.requires.frame c.requires.round c.requires.at new has
    c.args.self.now c.move_all.new.self c.part_everyone.new.self c.requires.suspects c.move_all.ensures.apart c.move_all.ensures.size c.move_all.ensures.moved c.part_everyone.ensures.size
    (apart-all answer f r lists c.requires.frame c.requires.round c.requires.at new has c.part_everyone.new.self.apart.items c.part_everyone.ensures.apart)
    c.part_everyone.ensures.moved (c.part_everyone.ensures.turned ∙ c.move_all.ensures.turned)
