use Rattle.std.proofs.Common.{◌≡◌, ◌∙◌, ◌+◌, ◌++◌, Bool, false, List, filter, length, get_or, sym, ap, subst, arith}
use Rattle.change_lists.specs.declared.history.Change.{Change}
use Rattle.change_lists.specs.ChangeLists.{HasChanges}
use Rattle.round_kernel.specs.Frames.{AreStirred, stirs, count_in, lone_at}
use Rattle.round_kernel.proofs.Marking.{changes-now}
use Rattle.round_kernel.proofs.Rounding.{changes-all, listed-when, stirred-all}
use Rattle.round_kernel.proofs.copies.keep_changes.Goals as goal

pub copy_changes-requires-clause-touched : goal.copy_changes-requires-clause-touched
copy_changes-requires-clause-touched g c = λ k d low.
    let had = changes-now g.U.Updater.answer c.args.frame c.args.round c.requires.frame c.requires.round c.changes_after-changes.result.now c.changes_after-changes.ensures in
    omega (arith, had.within k d low, ap (λ (bs : List Bool). length bs) c.deref.ensures.value, c.requires.at.touched_size)

pub copy_changes-requires-clause-watched : goal.copy_changes-requires-clause-watched
copy_changes-requires-clause-watched g c = λ k d low.
    let had = changes-now g.U.Updater.answer c.args.frame c.args.round c.requires.frame c.requires.round c.changes_after-changes.result.now c.changes_after-changes.ensures in
    omega (arith, had.within k d low, ap (λ (bs : List Bool). length bs) c.deref-2.ensures.value, c.requires.at.watched_size)

pub returns-clause-changes : goal.returns-clause-changes
returns-clause-changes g c =
    let answer = g.U.Updater.answer in
    let f = c.args.frame in
    let r = c.args.round in
    let old = c.changes_after-changes.result.now in
    subst (λ (cs : List Change). HasChanges (count_in f) (lone_at answer f r) (lone_at answer f (r + 1)) cs) (sym c.in_ok-copy_changes.ensures.made)
    (changes-all answer f r c.deref.result.now (λ v low. ap (λ (bs : List Bool). get_or bs v false) c.deref.ensures.value ∙ c.requires.at.touched_are v low) c.args.made.now.changes old c.requires.found
    (changes-now answer f r c.requires.frame c.requires.round old c.changes_after-changes.ensures))

pub returns-clause-stirred : goal.returns-clause-stirred
returns-clause-stirred g c = λ few.
    let answer = g.U.Updater.answer in
    let f = c.args.frame in
    let r = c.args.round in
    let found = c.args.made.now.changes in
    let old = c.changes_after-changes.result.now in
    let stirring : Change → Bool = λ x. stirs c.deref.result.now c.deref-2.result.now x.node.0 in
    let listed : c.list_if.new.stirred ≡ found = c.in_ok-list_if.ensures few ∙ ap (λ (cs : List Change). cs ++ c.as_slice.result.now) c.clear.ensures ∙ c.as_slice.ensures in
    let copied : c.copy_changes.new.stirred ≡ found ++ filter stirring old = listed-when _ few stirring c.copy_changes.new.stirred c.list_if.new.stirred found old c.in_ok-copy_changes.ensures.stirred listed in
    subst (λ (cs : List Change). AreStirred answer f r cs) (sym copied)
    (stirred-all answer f r c.args.lists.now c.requires.at c.deref.result.now c.deref-2.result.now c.deref.ensures.value c.deref-2.ensures.value found old c.requires.found c.changes_after-changes.ensures
    (changes-now answer f r c.requires.frame c.requires.round old c.changes_after-changes.ensures))
