-- The changes turn edges of the matrix before, so taken back in the new one they give it again.
use Rattle.std.proofs.Common.{◌≡◌, ◌∙◌, Bool, List, length, ap, ap₂, sym, subst}
use Rattle.graph_model.specs.declared.number.EdgeNo.{EdgeNo}
use Rattle.view_matrix.specs.Matrices.{MatrixData, with_changes}
use Rattle.view_versions.specs.Edits.{taken_back}
use Rattle.view_versions.specs.Engines.{Stands}
use Rattle.vertex_rows.proofs.Changed.{as-many}
use Rattle.vertex_rows.proofs.tests.followed.turn.Goals as goal

pub advance-requires-clause-stands : goal.advance-requires-clause-stands
advance-requires-clause-stands g c =
    let m = c.args.matrix.now in
    let cs = c.in_ok-changes.changes.items in
    let law = c.edits_are_taken_back.ensures m cs c.in_ok-changes.ensures.within c.in_ok-changes.ensures.turns in
    let is : c.edit.new.self ≡ with_changes m cs = c.edit.ensures ∙ ap (λ (xs : List (EdgeNo × Bool)). with_changes m xs) c.deref.ensures.value in
    subst (λ (n : MatrixData). Stands g.U.Updater.answer n c.args.engine.now)
    (sym (ap₂ (λ (n : MatrixData) (xs : List (EdgeNo × Bool)). taken_back n xs) is c.deref-2.ensures.value ∙ law.1)) c.requires.stands

pub returns-clause-size : goal.returns-clause-size
returns-clause-size g c = ap (λ (n : MatrixData). length n.live) c.edit.ensures ∙ as-many c.args.matrix.now.live c.deref.result.now
