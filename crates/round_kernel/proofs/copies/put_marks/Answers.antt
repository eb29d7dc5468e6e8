use Rattle.std.proofs.Common.{◌≡◌, ◌∙◌, ◌-◌, [], List, get_or, subst, sym, arith}
use Rattle.std.specs.Prelude.{IfSome}
use Rattle.graph_model.specs.declared.number.NodeNo.{NodeNo}
use Rattle.change_lists.specs.ChangeLists.{HasNodes}
use Rattle.round_kernel.specs.Frames.{count_in, marked_at}
use Rattle.round_kernel.proofs.Marking.{marks-before}
use Rattle.round_kernel.proofs.Rounding.{marks-all}
use Rattle.round_kernel.proofs.Sharing.{shared-marks}
use Rattle.round_kernel.proofs.copies.put_marks.Goals as goal

pub returns-in-Some-clause-marks : goal.returns-in-Some-clause-marks
returns-in-Some-clause-marks g c = λ later.
    let answer = g.U.Updater.answer in
    let f = c.args.frame in
    let r = c.args.round in
    let list = c.in-Some.list.value in
    let is : list ≡ get_or f.history.now.marks (r - 1) [] = subst (λ o. IfSome o (λ one. one.value ≡ get_or f.history.now.marks (r - 1) [])) c.in-Some.is c.in_ok-shared.ensures in
    shared-marks answer f r c.args.touched.now c.requires.touched list (marks-before answer f r c.requires.frame c.requires.round later list is) (λ v low on. c.requires.same c.if-same.true v low later on)

pub copy_marks-requires : goal.copy_marks-requires
copy_marks-requires g c = record {
  touched = λ k d low.
      let had = marks-before g.U.Updater.answer c.args.frame c.args.round c.requires.frame c.requires.round (omega (arith, c.if-round-eq0.false)) c.marks_after-marks.result.now c.marks_after-marks.ensures in
      omega (arith, had.within k d low, c.requires.size);
}

pub returns-clause-marks : goal.returns-clause-marks
returns-clause-marks g c = λ later.
    let answer = g.U.Updater.answer in
    let f = c.args.frame in
    let r = c.args.round in
    subst (λ (ns : List NodeNo). HasNodes (count_in f) (marked_at answer f r) ns) (sym c.in_ok-copy_marks.ensures.made)
    (marks-all answer f r c.args.touched.now c.requires.touched c.args.made.now.marks c.marks_after-marks.result.now c.requires.found
    (marks-before answer f r c.requires.frame c.requires.round later c.marks_after-marks.result.now c.marks_after-marks.ensures))
