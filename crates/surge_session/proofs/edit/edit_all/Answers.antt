-- One matrix more.
use Rattle.std.proofs.Common.{◌≡◌, ◌∙◌, ◌<◌, ℕ, List, length, get_or, slice_set, sym, ap, subst, All, arith}
use Rattle.std.proofs.lemmas.List.{get_or_default}
use Rattle.std.proofs.lemmas.List.Edits.{map_over_more}
use Rattle.std.proofs.lemmas.List.Elements.{All-set}
use Rattle.graph_model.specs.declared.number.EdgeNo.{EdgeNo}
use Rattle.view_matrix.specs.Matrices.{MatrixData, with_changes}
use Rattle.surge_session.proofs.Turning.{within_edited}
use Rattle.surge_session.proofs.edit.edit_all.Goals as goal

pub loop-matrix-preserved : goal.loop-matrix-preserved
loop-matrix-preserved c =
    let all : List MatrixData = c.args.made.now in
    let made : List MatrixData = c.loop-matrix.made in
    let i : ℕ = c.loop-matrix.matrix-index in
    let cs = c.args.changes.now in
    let within : i < length made = omega arith in
    let first : i < length all = omega arith in
    record {
      edited =
          ap (λ (m : MatrixData). slice_set made i m) c.edit.ensures
          ∙ map_over_more (λ (m : MatrixData). with_changes m cs) all made i _ first c.loop-matrix.invariant.edited (get_or_default made i _ _ within);
      within =
          All-set (λ (m : MatrixData). All (λ (change : _). change.0.0 < length m.live) cs) made i c.edit.new.self
          (within_edited cs made i _ c.edit.new.self c.edit.ensures (get_or_default made i _ _ within) within c.loop-matrix.invariant.within)
          c.loop-matrix.invariant.within;
    }
