use Rattle.std.proofs.Common.{◌≡◌, ◌∙◌, ◌<◌, ◌+◌, ◌++◌, [], Bool, true, false, List, filter, length, get_or, sym, ap, subst, arith}
use Rattle.std.specs.Prelude.{All, Contains, IfSome}
use Rattle.std.proofs.lemmas.List.Elements.{All-filter}
use Rattle.change_lists.specs.declared.history.Change.{Change}
use Rattle.change_lists.specs.ChangeLists.{HasChanges}
use Rattle.round_kernel.specs.Frames.{AreStirred, HasSome, stirs, count_in, lone_at, touched_at}
use Rattle.round_kernel.proofs.Marking.{changes-now}
use Rattle.round_kernel.proofs.Rounding.{changes-all}
use Rattle.round_kernel.proofs.Sharing.{shared-changes, stirred-few}
use Rattle.round_kernel.proofs.copies.keep_few.Goals as goal

pub list_stirring-requires-clause-touched : goal.list_stirring-requires-clause-touched
list_stirring-requires-clause-touched g c = λ k d low.
    let had = changes-now g.U.Updater.answer c.args.frame c.args.round c.requires.frame c.requires.round c.changes_after-changes.result.now c.changes_after-changes.ensures in
    omega (arith, had.within k d low, ap (λ (bs : List Bool). length bs) c.deref.ensures.value, c.requires.at.touched_size)

pub list_stirring-requires-clause-watched : goal.list_stirring-requires-clause-watched
list_stirring-requires-clause-watched g c = λ k d low.
    let had = changes-now g.U.Updater.answer c.args.frame c.args.round c.requires.frame c.requires.round c.changes_after-changes.result.now c.changes_after-changes.ensures in
    omega (arith, had.within k d low, ap (λ (bs : List Bool). length bs) c.deref-2.ensures.value, c.requires.at.watched_size)

pub are_same_changes-same-requires : goal.are_same_changes-same-requires
are_same_changes-same-requires g c =
    let old = c.changes_after-changes.result.now in
    let stirring : Change → Bool = λ x. stirs c.deref.result.now c.deref-2.result.now x.node.0 in
    let had = changes-now g.U.Updater.answer c.args.frame c.args.round c.requires.frame c.requires.round old c.changes_after-changes.ensures in
    let is : c.as_slice.result.now ≡ filter stirring old = c.as_slice.ensures ∙ c.in_ok-list_stirring.ensures ∙ ap (λ (cs : List Change). cs ++ filter stirring old) c.requires.none in
    subst (λ (cs : List Change). All (λ x. x.node.0 < length c.deref-3.result.now) cs) (sym is)
    (All-filter stirring (λ (x : Change). x.node.0 < length c.deref-3.result.now) old (λ k d low. omega (arith, had.within k d low, ap (λ (bs : List Bool). length bs) c.deref-3.ensures.value, c.requires.at.touched_size)))

pub returns-in-Some-clause-changes : goal.returns-in-Some-clause-changes
returns-in-Some-clause-changes g c =
    let answer = g.U.Updater.answer in
    let f = c.args.frame in
    let r = c.args.round in
    let old = c.changes_after-changes.result.now in
    let found = c.as_slice-found.result.now in
    let rest = c.as_slice.result.now in
    let touched = c.deref.result.now in
    let stirring : Change → Bool = λ x. stirs touched c.deref-2.result.now x.node.0 in
    let had = changes-now answer f r c.requires.frame c.requires.round old c.changes_after-changes.ensures in
    let some = subst (λ (cs : List Change). HasSome answer f r (touched_at answer f r) cs) (sym c.as_slice-found.ensures) c.requires.found in
    let er : rest ≡ filter stirring old = c.as_slice.ensures ∙ c.in_ok-list_stirring.ensures ∙ ap (λ (cs : List Change). cs ++ filter stirring old) c.requires.none in
    let ins = subst (λ (bs : List Bool). All (λ x. get_or bs x.node.0 false ≡ true → Contains found x) rest) (c.deref-3.ensures.value ∙ sym c.deref.ensures.value) (c.are_same_changes-same.ensures.listed c.if-same.true) in
    let is : c.in-Some.list.value ≡ get_or f.history.now.changes r [] = subst (λ o. IfSome o (λ one. one.value ≡ get_or f.history.now.changes r [])) c.in-Some.is c.in_ok-shared.ensures in
    subst (λ (cs : List Change). HasChanges (count_in f) (lone_at answer f r) (lone_at answer f (r + 1)) cs) (c.changes_after-changes.ensures ∙ sym is)
    (shared-changes answer f r touched (λ v low. ap (λ (bs : List Bool). get_or bs v false) c.deref.ensures.value ∙ c.requires.at.touched_are v low) c.deref-2.result.now found old rest some had er ins (c.are_same_changes-same.ensures.found c.if-same.true))

pub returns-in-Some-clause-stirred : goal.returns-in-Some-clause-stirred
returns-in-Some-clause-stirred g c =
    let answer = g.U.Updater.answer in
    let f = c.args.frame in
    let r = c.args.round in
    let old = c.changes_after-changes.result.now in
    let found = c.as_slice-found.result.now in
    let stirring : Change → Bool = λ x. stirs c.deref.result.now c.deref-2.result.now x.node.0 in
    let had = changes-now answer f r c.requires.frame c.requires.round old c.changes_after-changes.ensures in
    let some = subst (λ (cs : List Change). HasSome answer f r (touched_at answer f r) cs) (sym c.as_slice-found.ensures) c.requires.found in
    let all : c.list_all.new.stirred ≡ filter stirring old ++ found = c.in_ok-list_all.ensures ∙ ap (λ (cs : List Change). cs ++ found) (c.in_ok-list_stirring.ensures ∙ ap (λ (cs : List Change). cs ++ filter stirring old) c.requires.none) in
    subst (λ (cs : List Change). AreStirred answer f r cs) (sym all)
    (stirred-few answer f r c.args.lists.now c.requires.at c.deref.result.now c.deref-2.result.now c.deref.ensures.value c.deref-2.ensures.value found old some c.changes_after-changes.ensures had)

pub copy_untouched-requires : goal.copy_untouched-requires
copy_untouched-requires g c = λ k d low.
    let had = changes-now g.U.Updater.answer c.args.frame c.args.round c.requires.frame c.requires.round c.changes_after-changes.result.now c.changes_after-changes.ensures in
    omega (arith, had.within k d low, ap (λ (bs : List Bool). length bs) c.deref-4.ensures.value, c.requires.at.touched_size)

pub returns-clause-changes : goal.returns-clause-changes
returns-clause-changes g c =
    let answer = g.U.Updater.answer in
    let f = c.args.frame in
    let r = c.args.round in
    let old = c.changes_after-changes.result.now in
    let had = changes-now answer f r c.requires.frame c.requires.round old c.changes_after-changes.ensures in
    subst (λ (cs : List Change). HasChanges (count_in f) (lone_at answer f r) (lone_at answer f (r + 1)) cs) (sym c.in_ok-copy_untouched.ensures)
    (changes-all answer f r c.deref-4.result.now (λ v low. ap (λ (bs : List Bool). get_or bs v false) c.deref-4.ensures.value ∙ c.requires.at.touched_are v low) c.args.made.now.changes old c.requires.found had)

pub returns-clause-stirred : goal.returns-clause-stirred
returns-clause-stirred g c =
    let answer = g.U.Updater.answer in
    let f = c.args.frame in
    let r = c.args.round in
    let old = c.changes_after-changes.result.now in
    let found = c.as_slice-found.result.now in
    let stirring : Change → Bool = λ x. stirs c.deref.result.now c.deref-2.result.now x.node.0 in
    let had = changes-now answer f r c.requires.frame c.requires.round old c.changes_after-changes.ensures in
    let some = subst (λ (cs : List Change). HasSome answer f r (touched_at answer f r) cs) (sym c.as_slice-found.ensures) c.requires.found in
    let all : c.list_all.new.stirred ≡ filter stirring old ++ found = c.in_ok-list_all.ensures ∙ ap (λ (cs : List Change). cs ++ found) (c.in_ok-list_stirring.ensures ∙ ap (λ (cs : List Change). cs ++ filter stirring old) c.requires.none) in
    subst (λ (cs : List Change). AreStirred answer f r cs) (sym all)
    (stirred-few answer f r c.args.lists.now c.requires.at c.deref.result.now c.deref-2.result.now c.deref.ensures.value c.deref-2.ensures.value found old some c.changes_after-changes.ensures had)
