-- From a view, and from the empty column.
use Rattle.std.proofs.Common.{◌≡◌, ◌∙◌, List, Bool, Option, Some, None, [], length, ap, sym, subst, arith}
use Rattle.std.proofs.lemmas.List.{get_or_default}
use Rattle.std.proofs.lemmas.Result.{IfOk-weaker}
use Rattle.graph_model.specs.declared.number.ViewNo.{ViewNo}
use Rattle.graph_model.specs.declared.number.EdgeNo.{EdgeNo}
use Rattle.view_matrix.specs.Matrices.{MatrixData, differences_of, place_of, IsColumn}
use Rattle.view_matrix.specs.MatrixInside.{data_of}
use Rattle.view_matrix.proofs.MatrixBits.{differences_are, differences_none, few_differences}
use Rattle.view_matrix.proofs.matrix.Matrix.differences.Goals as goal

pub returns-in-Some-clause-differences : goal.returns-in-Some-clause-differences
returns-in-Some-clause-differences c =
    let m : MatrixData = data_of c.self.inside in
    let v = c.args.view.0 in
    let u = c.in-Some.last.0 in
    let columns : length m.columns ≡ length c.args.self.now.columns = ap (λ (x : MatrixData). length x.columns) c.self.view_is in
    let last : IsColumn c.args.self.now (Some c.in-Some.last) = subst (λ (b : Option ViewNo). IsColumn c.args.self.now b) c.in-Some.is c.requires.before in
    IfOk-weaker c.list_apart.result _ _
    (λ (ds : List (EdgeNo × Bool)) is.
    is
    ∙ differences_are m v c.index-column.result.now (c.index-column.ensures ∙ get_or_default m.columns v c.index-column.result.now [] (omega (arith, c.requires.view, columns)))
    u c.index.result.now (c.index.ensures ∙ get_or_default m.columns u c.index.result.now [] (omega (arith, last, columns)))
    ∙ ap (λ (x : MatrixData). differences_of x (Some u) v) c.self.view_is ∙ ap (λ (b : Option ViewNo). differences_of c.args.self.now (place_of b) v) (sym c.in-Some.is))
    c.list_apart.ensures

pub returns-in-Some-clause-limit : goal.returns-in-Some-clause-limit
returns-in-Some-clause-limit c =
    let m = c.args.self.now in
    let few = ap (λ (x : MatrixData). length x.live) c.self.view_is in
    IfOk-weaker c.list_apart.result _ _
    (λ (ds : List (EdgeNo × Bool)) (is : ds ≡ differences_of m (place_of c.args.before) c.args.view.0). few_differences m (place_of c.args.before) c.args.view.0 ds (omega (arith, few, c.self.invariant.few_edges)) is)
    (returns-in-Some-clause-differences c)

pub returns-in-None-clause-differences : goal.returns-in-None-clause-differences
returns-in-None-clause-differences c =
    let m : MatrixData = data_of c.self.inside in
    let v = c.args.view.0 in
    let columns : length m.columns ≡ length c.args.self.now.columns = ap (λ (x : MatrixData). length x.columns) c.self.view_is in
    IfOk-weaker c.list_new.result _ _
    (λ (ds : List (EdgeNo × Bool)) is.
    is
    ∙ differences_none m v c.index-column.result.now (c.index-column.ensures ∙ get_or_default m.columns v c.index-column.result.now [] (omega (arith, c.requires.view, columns)))
    ∙ ap (λ (x : MatrixData). differences_of x None v) c.self.view_is ∙ ap (λ (b : Option ViewNo). differences_of c.args.self.now (place_of b) v) (sym c.in-None.is))
    c.list_new.ensures

pub returns-in-None-clause-limit : goal.returns-in-None-clause-limit
returns-in-None-clause-limit c =
    let m = c.args.self.now in
    let few = ap (λ (x : MatrixData). length x.live) c.self.view_is in
    IfOk-weaker c.list_new.result _ _
    (λ (ds : List (EdgeNo × Bool)) (is : ds ≡ differences_of m (place_of c.args.before) c.args.view.0). few_differences m (place_of c.args.before) c.args.view.0 ds (omega (arith, few, c.self.invariant.few_edges)) is)
    (returns-in-None-clause-differences c)
