use Rattle.std.proofs.Common.{◌≡◌, ◌∙◌, ◌<◌, ◌≤◌, List, [], length, ap, arith}
use Rattle.std.proofs.lemmas.List.{get_or_default}
use Rattle.std.proofs.lemmas.Result.{IfOk-weaker}
use Rattle.graph_model.specs.declared.number.EdgeNo.{EdgeNo}
use Rattle.view_matrix.specs.Matrices.{MatrixData, bit_of, edges_in}
use Rattle.view_matrix.specs.MatrixInside.{data_of}
use Rattle.view_matrix.proofs.MatrixBits.{edges_are, few_kept}
use Rattle.view_matrix.proofs.matrix.Matrix.edges.Goals as goal

pub returns-clause-edges : goal.returns-clause-edges
returns-clause-edges c =
    let m : MatrixData = data_of c.self.inside in
    let v = c.args.view.0 in
    let within : v < length m.columns = omega (arith, c.requires, ap (λ (x : MatrixData). length x.columns) c.self.view_is) in
    IfOk-weaker c.list_both.result _ _ (λ (es : List EdgeNo) is. is ∙ edges_are m v c.index.result.now (c.index.ensures ∙ get_or_default m.columns v c.index.result.now [] within) ∙ ap (λ (x : MatrixData). edges_in x v) c.self.view_is) c.list_both.ensures

pub returns-clause-limit : goal.returns-clause-limit
returns-clause-limit c =
    let m = c.args.self.now in
    let few = ap (λ (x : MatrixData). length x.live) c.self.view_is in
    IfOk-weaker c.list_both.result _ _
    (λ (es : List EdgeNo) (is : es ≡ edges_in m c.args.view.0). let h : length es ≤ 4_000_000 = omega (arith, ap (λ (xs : List EdgeNo). length xs) is, few_kept m (λ (e : EdgeNo). bit_of m e.0 c.args.view.0) (omega (arith, few, c.self.invariant.few_edges))) in h)
    (returns-clause-edges c)
