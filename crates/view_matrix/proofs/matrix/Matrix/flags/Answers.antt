use Rattle.std.proofs.Common.{◌∙◌, ◌<◌, ℕ, [], length, map, ap, arith}
use Rattle.std.specs.List.{range_with_len}
use Rattle.std.proofs.lemmas.List.{get_or_default}
use Rattle.std.proofs.lemmas.Result.{IfOk-weaker}
use Rattle.view_matrix.specs.Matrices.{MatrixData, bit_of}
use Rattle.view_matrix.specs.MatrixInside.{data_of}
use Rattle.view_matrix.proofs.MatrixBits.{flags_are}
use Rattle.view_matrix.proofs.matrix.Matrix.flags.Goals as goal

pub returns : goal.returns
returns c =
    let m : MatrixData = data_of c.self.inside in
    let v = c.args.view.0 in
    let within : v < length m.columns = omega (arith, c.requires, ap (λ (x : MatrixData). length x.columns) c.self.view_is) in
    IfOk-weaker c.flags_both.result _ _
    (λ flags is. is ∙ flags_are m v c.index.result.now (c.index.ensures ∙ get_or_default m.columns v c.index.result.now [] within) ∙ ap (λ (x : MatrixData). map (λ (e : ℕ). bit_of x e v) (range_with_len 0 (length x.live))) c.self.view_is)
    c.flags_both.ensures
