use Rattle.std.proofs.Common.{◌≡◌, ◌+◌, [], Bool, List, length, get_or, ap, refl, subst, sym, arith}
use Rattle.change_lists.specs.declared.history.Change.{Change}
use Rattle.std.proofs.lemmas.List.{with_items_is}
use Rattle.round_kernel.specs.Frames.{AreStirred, old_lone_at}
use Rattle.round_kernel.proofs.Marking.{old-step}
use Rattle.round_kernel.proofs.Rounding.{parted-at, parted-next}
use Rattle.round_kernel.proofs.round.part_stirred.Goals as goal

pub returns-clause-parted : goal.returns-clause-parted
returns-clause-parted g c = λ one.
    let answer = g.U.Updater.answer in
    let f = c.args.frame in
    let r = c.args.round in
    let lists = c.args.lists.now in
    let size : length c.part.new.parted ≡ lists.parted.len = omega (arith, c.part.auto.parted, ap (λ (bs : List Bool). length bs) c.deref_mut-2.ensures.value, lists.parted.ok) in
    parted-next answer f r lists c.requires.at one (get_or f.history.now.changes r []) c.as_slice.result.now refl
    (old-step answer f c.requires.frame r (length f.graph.now.ids) (old_lone_at answer f r) (old_lone_at answer f (r + 1)) (get_or f.history.now.changes r []) c.requires.round one refl refl refl refl)
    (subst (λ (cs : List Change). AreStirred answer f r cs) (sym c.as_slice.ensures) (c.requires.made.stirred c.if-not-made.false)) lists.parted.items _
    (parted-at _ _ _ _ _ _ _ _ _ _ _ c.deref.ensures.value c.deref-2.ensures.value c.deref-3.ensures.value c.deref_mut-2.ensures.value (with_items_is lists.parted c.part.new.parted size) c.part.ensures)
