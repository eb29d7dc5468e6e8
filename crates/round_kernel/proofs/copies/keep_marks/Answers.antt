use Rattle.std.proofs.Common.{◌≡◌, ◌∙◌, Bool, false, List, length, get_or, sym, ap, subst, arith}
use Rattle.std.specs.Prelude.{◌&&◌}
use Rattle.std.specs.Vec.{with_items}
use Rattle.graph_model.specs.declared.number.NodeNo.{NodeNo}
use Rattle.change_lists.specs.ChangeLists.{HasNodes}
use Rattle.round_kernel.specs.Frames.{AreDivided, count_in, marked_at, touched_at}
use Rattle.round_kernel.proofs.Rounding.{at-marked}
use Rattle.round_kernel.proofs.Sharing.{same-marks}
use Rattle.round_kernel.proofs.copies.keep_marks.Goals as goal

pub put_marks-requires-clause-same : goal.put_marks-requires-clause-same
put_marks-requires-clause-same g c = λ yes.
    let answer = g.U.Updater.answer in
    let f = c.args.frame in
    let r = c.args.round in
    let lists = c.args.lists.now in
    let divided = subst (λ (ns : List NodeNo). AreDivided answer f r c.deref-2.result.now ns) (sym c.as_slice-shown.ensures) (subst (λ (bs : List Bool). AreDivided answer f r bs lists.shown) (sym c.deref-2.ensures.value) c.requires.divided) in
    let found = subst (λ (ns : List NodeNo). HasNodes (count_in f) (λ v. touched_at answer f r v && marked_at answer f r v) ns) (sym c.as_slice.ensures) c.requires.found in
    same-marks answer f r c.deref.result.now (λ v low. ap (λ (bs : List Bool). get_or bs v false) c.deref.ensures.value ∙ c.requires.at.touched_are v low) c.deref-2.result.now c.as_slice-shown.result.now c.as_slice.result.now
    divided found (c.are_same_marks-same.ensures.shown yes) (c.are_same_marks-same.ensures.found yes)

pub returns-clause-at : goal.returns-clause-at
returns-clause-at g c =
    let answer = g.U.Updater.answer in
    let f = c.args.frame in
    let r = c.args.round in
    let lists = c.args.lists.now in
    let marked = with_items lists.marked c.clear_flags.new.marked in
    let size : length marked.items ≡ count_in f = omega (arith, c.clear_flags.auto.marked, ap (λ (bs : List Bool). length bs) c.deref_mut.ensures.value, c.requires.at.marked_size) in
    at-marked answer f r (touched_at answer f r) lists marked c.clear.new.self c.requires.at size
