use Rattle.std.proofs.Common.{◌≡◌, ◌∙◌, sym, subst}
use Rattle.std.proofs.lemmas.Result.{err_from_is_err_and}
use Rattle.graph_model.specs.GraphData.{IsGraphData, graph_data}
use Rattle.graph_loader.proofs.LoadFacts.{edges-stop, few-ids, is-graph, nodes-stop, of-no-size}
use Rattle.graph_loader.proofs.loading.load.Goals as goal

pub returns-in_err-ids-clause-size : goal.returns-in_err-ids-clause-size
returns-in_err-ids-clause-size c =
    let e = c.in_err-ids.field-0.0 in
    let p = err_from_is_err_and c.from_residual.result c.from_residual.ensures.1 in
    rw (p.1, p.2) (of-no-size c.args.nodes.now c.args.edges.now e (nodes-stop c.args.nodes.now c.args.edges.now e c.in_err-ids.ensures.fault))

pub edge_table-requires : goal.edge_table-requires
edge_table-requires c = let t = c.in_ok-ids.field-0 in few-ids c.args.nodes.now t.ids.keys t.columns t.cells c.in_ok-ids.ensures.ok

pub returns-in_err-ends-clause-size : goal.returns-in_err-ends-clause-size
returns-in_err-ends-clause-size c =
    let t = c.in_ok-ids.field-0 in
    let e = c.in_err-ends.field-0.0 in
    let p = err_from_is_err_and c.from_residual-in_err-ends.result c.from_residual-in_err-ends.ensures.1 in
    rw (p.1, p.2)
    (of-no-size c.args.nodes.now c.args.edges.now e
    (edges-stop c.args.nodes.now t.ids.keys t.columns t.cells c.in_ok-ids.ensures.ok c.args.edges.now e c.in_err-ends.ensures.fault))

pub new-requires : goal.new-requires
new-requires c =
    let t = c.in_ok-ids.field-0 in
    let u = c.in_ok-ends.field-0 in
    let listed : c.in_ok-ids-2.ids ≡ t.ids.keys = c.in_ok-ids-2.ensures ∙ c.as_slice.ensures.keys in
    subst (λ i. IsGraphData (graph_data i t.columns t.cells u.edges.ends u.columns u.edges.cells)) (sym listed)
    (is-graph c.args.nodes.now t.ids.keys t.columns t.cells c.in_ok-ids.ensures.ok c.args.edges.now u.edges.ends u.columns u.edges.cells c.in_ok-ends.ensures.ok)
