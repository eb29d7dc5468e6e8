use Rattle.std.proofs.Common.{◌∙◌, ◌<◌, [], length, ap, arith}
use Rattle.std.proofs.lemmas.List.{get_or_default}
use Rattle.view_matrix.specs.Matrices.{MatrixData, bit_of, size_of}
use Rattle.view_matrix.proofs.MatrixBits.{size_is, few_kept}
use Rattle.view_matrix.specs.MatrixInside.{data_of}
use Rattle.view_matrix.proofs.matrix.Matrix.size.Goals as goal

pub returns-clause-value : goal.returns-clause-value
returns-clause-value c =
    let m : MatrixData = data_of c.self.inside in
    let v = c.args.view.0 in
    let within : v < length m.columns = omega (arith, c.requires, ap (λ (x : MatrixData). length x.columns) c.self.view_is) in
    c.count_both.ensures ∙ size_is m v c.index.result.now (c.index.ensures ∙ get_or_default m.columns v c.index.result.now [] within) ∙ ap (λ (x : MatrixData). size_of x v) c.self.view_is

pub returns-clause-limit : goal.returns-clause-limit
returns-clause-limit c =
    let m : MatrixData = data_of c.self.inside in
    let v = c.args.view.0 in
    omega (arith, returns-clause-value c, ap (λ (x : MatrixData). size_of x v) c.self.view_is, few_kept m (λ e. bit_of m e.0 v) c.self.invariant.few_edges)
