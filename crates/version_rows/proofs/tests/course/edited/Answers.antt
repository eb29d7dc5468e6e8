-- The changes turn edges of the matrix before, so taken back in the new one they give it again.
use Rattle.std.proofs.Common.{◌≡◌, ◌∙◌, Bool, List, length, ap, ap₂, sym, subst}
use Rattle.graph_model.specs.declared.number.EdgeNo.{EdgeNo}
use Rattle.view_matrix.specs.Matrices.{MatrixData, with_changes}
use Rattle.view_versions.specs.Edits.{AreEdits, taken_back}
use Rattle.version_rows.proofs.Changed.{as-many}
use Rattle.version_rows.proofs.tests.course.edited.Goals as goal

pub follows-requires-clause-former : goal.follows-requires-clause-former
follows-requires-clause-former g c =
    let m = c.args.matrix.now in
    let cs = c.in_ok-changes.changes.items in
    let law = c.edits_are_taken_back.ensures m cs c.in_ok-changes.ensures.within c.in_ok-changes.ensures.turns in
    let is : c.edit.new.self ≡ with_changes m cs = c.edit.ensures ∙ ap (λ (xs : List (EdgeNo × Bool)). with_changes m xs) c.deref.ensures.value in
    c.requires.same ∙ sym law.1 ∙ ap₂ (λ (n : MatrixData) (xs : List (EdgeNo × Bool)). taken_back n xs) (sym is) (sym c.deref-2.ensures.value)

pub follows-requires-clause-edits : goal.follows-requires-clause-edits
follows-requires-clause-edits g c =
    let m = c.args.matrix.now in
    let cs = c.in_ok-changes.changes.items in
    let law = c.edits_are_taken_back.ensures m cs c.in_ok-changes.ensures.within c.in_ok-changes.ensures.turns in
    let is : c.edit.new.self ≡ with_changes m cs = c.edit.ensures ∙ ap (λ (xs : List (EdgeNo × Bool)). with_changes m xs) c.deref.ensures.value in
    subst (λ (n : MatrixData). AreEdits n c.deref-2.result.now) (sym is) (subst (λ (xs : List (EdgeNo × Bool)). AreEdits (with_changes m cs) xs) (sym c.deref-2.ensures.value) law.0)

pub follows-requires-clause-size : goal.follows-requires-clause-size
follows-requires-clause-size g c =
    let m = c.args.matrix.now in
    ap (λ (n : MatrixData). length n.live) c.edit.ensures ∙ as-many m.live c.deref.result.now ∙ ap (λ (n : MatrixData). length n.live) (sym c.requires.same)
