use Rattle.std.proofs.Common.{◌≡◌, ◌∙◌, sym, ap, ◌+◌, ◌<◌, length, map, arith}
use Rattle.std.proofs.lemmas.List.{length-map}
use Rattle.std.proofs.lemmas.Result.{err_from_is_err_and}
use Rattle.csv.specs.Records.{fields_of}
use Rattle.graph_model.specs.GraphData.{kind_of}
use Rattle.graph_loader.specs.DataFiles.{cells_fault, earlier_of, edge_fault}
use Rattle.graph_loader.specs.LoadSteps.{ends_so_far, pair_fault}
use Rattle.graph_loader.specs.CellLaws.{told-stop}
use Rattle.graph_loader.proofs.EndFacts.{edge-by-pair, length-so-far}
use Rattle.graph_loader.proofs.edges.read_edge.Goals as goal

pub returns-in_err-ends_with-clause-told : goal.returns-in_err-ends_with-clause-told
returns-in_err-ends_with-clause-told c =
    let row = fields_of c.args.row.now in
    let ids = c.args.nodes.now.ids.now.keys in
    let kinds = map kind_of c.args.cells.now.items in
    let earlier = ends_so_far ids c.args.ends.now c.args.waiting.now in
    let few : c.args.before + length earlier < 4_000_000 = omega (arith, length-so-far ids c.args.ends.now c.args.waiting.now) in
    let wide : length row ≡ length kinds + 2 = omega (arith, length-map c.args.cells.now.items kind_of) in
    let step : edge_fault c.args.before kinds ids earlier row ≡ earlier_of (pair_fault ids c.in_ok-pair.pair) (cells_fault row 2 kinds) =
    edge-by-pair c.args.before kinds ids earlier row c.in_ok-pair.pair few wide (c.in_ok-pair.ensures.told ∙ ap (pair_fault ids) (sym c.in_ok-pair.ensures.pair)) in
    let p = err_from_is_err_and c.from_residual-in_err-ends_with.result c.from_residual-in_err-ends_with.ensures.1 in
    rw (p.1, p.2) (told-stop _ (pair_fault ids c.in_ok-pair.pair) (cells_fault row 2 kinds) _ step c.in_err-ends_with.ensures.told)
