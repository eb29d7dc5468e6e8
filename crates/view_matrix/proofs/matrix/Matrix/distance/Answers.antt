-- From a view, and from the empty column.
use Rattle.std.proofs.Common.{◌≡◌, ◌∙◌, Option, Some, None, [], length, ap, sym, subst, arith}
use Rattle.std.proofs.lemmas.List.{get_or_default}
use Rattle.graph_model.specs.declared.number.ViewNo.{ViewNo}
use Rattle.graph_model.specs.declared.number.EdgeNo.{EdgeNo}
use Rattle.view_matrix.specs.Laws.{distance_of-lists}
use Rattle.view_matrix.specs.Matrices.{MatrixData, bit_of, column_bit, differ, distance_of, place_of, IsColumn}
use Rattle.view_matrix.specs.MatrixInside.{data_of}
use Rattle.view_matrix.proofs.MatrixBits.{size_is, distance_is, few_kept}
use Rattle.view_matrix.proofs.matrix.Matrix.distance.Goals as goal

pub returns-in-Some-clause-value : goal.returns-in-Some-clause-value
returns-in-Some-clause-value c =
    let m : MatrixData = data_of c.self.inside in
    let v = c.args.view.0 in
    let u = c.in-Some.last.0 in
    let columns : length m.columns ≡ length c.args.self.now.columns = ap (λ (x : MatrixData). length x.columns) c.self.view_is in
    let last : IsColumn c.args.self.now (Some c.in-Some.last) = subst (λ (b : Option ViewNo). IsColumn c.args.self.now b) c.in-Some.is c.requires.before in
    c.count_apart.ensures
    ∙ distance_is m v c.index-column.result.now (c.index-column.ensures ∙ get_or_default m.columns v c.index-column.result.now [] (omega (arith, c.requires.view, columns)))
    u c.index.result.now (c.index.ensures ∙ get_or_default m.columns u c.index.result.now [] (omega (arith, last, columns)))
    ∙ ap (λ (x : MatrixData). distance_of x (Some u) v) c.self.view_is ∙ ap (λ (b : Option ViewNo). distance_of c.args.self.now (place_of b) v) (sym c.in-Some.is)

pub returns-in-Some-clause-lists : goal.returns-in-Some-clause-lists
returns-in-Some-clause-lists c = returns-in-Some-clause-value c ∙ distance_of-lists c.args.self.now (place_of c.args.before) c.args.view.0

pub returns-in-Some-clause-limit : goal.returns-in-Some-clause-limit
returns-in-Some-clause-limit c =
    let m = c.args.self.now in
    let few = ap (λ (x : MatrixData). length x.live) c.self.view_is in
    omega (arith, returns-in-Some-clause-value c, few_kept m (λ (e : EdgeNo). differ (column_bit m (place_of c.args.before) e.0) (bit_of m e.0 c.args.view.0)) (omega (arith, few, c.self.invariant.few_edges)))

pub returns-in-None-clause-value : goal.returns-in-None-clause-value
returns-in-None-clause-value c =
    let m : MatrixData = data_of c.self.inside in
    let v = c.args.view.0 in
    let columns : length m.columns ≡ length c.args.self.now.columns = ap (λ (x : MatrixData). length x.columns) c.self.view_is in
    c.count_both.ensures
    ∙ size_is m v c.index-column.result.now (c.index-column.ensures ∙ get_or_default m.columns v c.index-column.result.now [] (omega (arith, c.requires.view, columns)))
    ∙ ap (λ (x : MatrixData). distance_of x None v) c.self.view_is ∙ ap (λ (b : Option ViewNo). distance_of c.args.self.now (place_of b) v) (sym c.in-None.is)

pub returns-in-None-clause-lists : goal.returns-in-None-clause-lists
returns-in-None-clause-lists c = returns-in-None-clause-value c ∙ distance_of-lists c.args.self.now (place_of c.args.before) c.args.view.0

pub returns-in-None-clause-limit : goal.returns-in-None-clause-limit
returns-in-None-clause-limit c =
    let m = c.args.self.now in
    let few = ap (λ (x : MatrixData). length x.live) c.self.view_is in
    omega (arith, returns-in-None-clause-value c, few_kept m (λ (e : EdgeNo). differ (column_bit m (place_of c.args.before) e.0) (bit_of m e.0 c.args.view.0)) (omega (arith, few, c.self.invariant.few_edges)))
