use Rattle.std.proofs.Common.{◌≡◌, ◌∙◌, ◌+◌, ◌<◌, ap, length, map, drop, option_map, arith}
use Rattle.std.proofs.lemmas.Result.{err_from_is_err_and}
use Rattle.csv.specs.Records.{fields_of}
use Rattle.graph_model.specs.GraphData.{kind_of}
use Rattle.graph_loader.specs.DataFiles.{blame, cell_fault, cells_fault, earlier_of}
use Rattle.graph_loader.specs.CellLaws.{mixed, mixed-all, cells-at, cells-set, cells-go-on, told-stop}
use Rattle.graph_loader.proofs.cells.add_cells.Goals as goal

pub returns-in_err-add_cell-clause-told : goal.returns-in_err-add_cell-clause-told
returns-in_err-add_cell-clause-told c =
    let row = fields_of c.args.row.now in
    let old = c.args.columns.now.items in
    let i = c.loop-place.place in
    let first = option_map (blame (c.args.first + i + 1)) (cell_fault (kind_of c.index_mut.result.now) c.field.result.now) in
    let rest = cells_fault row (c.args.first + (i + 1)) (map kind_of (drop (i + 1) old)) in
    let lt : i < length old = omega arith in
    let step : cells_fault row c.args.first (map kind_of old) ≡ earlier_of first rest =
    cells-at row c.args.first i old c.loop-place.columns.items c.index_mut.result.now c.field.result.now _ lt c.loop-place.invariant.0 c.index_mut.ensures.value c.field.ensures c.loop-place.invariant.1 in
    let p = err_from_is_err_and c.from_residual.result c.from_residual.ensures.1 in
    rw (p.1, p.2) (told-stop _ first rest _ step c.in_err-add_cell.ensures.told)

pub loop-place-preserved : goal.loop-place-preserved
loop-place-preserved c =
    let row = fields_of c.args.row.now in
    let old = c.args.columns.now.items in
    let i = c.loop-place.place in
    let lt : i < length old = omega arith in (
      cells-set row c.args.first i old c.loop-place.columns.items c.index_mut.result.now c.add_cell.new.cells c.field.result.now lt c.loop-place.invariant.0 c.index_mut.ensures.value c.field.ensures c.in_ok-add_cell.ensures.added,
      cells-go-on row (c.args.first + (i + 1)) (map kind_of (drop (i + 1) old)) _ _
          (cells-at row c.args.first i old c.loop-place.columns.items c.index_mut.result.now c.field.result.now _ lt c.loop-place.invariant.0 c.index_mut.ensures.value c.field.ensures c.loop-place.invariant.1)
          c.in_ok-add_cell.ensures.told,
    )

pub returns-clause-added : goal.returns-clause-added
returns-clause-added c =
    let row = fields_of c.args.row.now in
    let old = c.args.columns.now.items in
    let all : c.loop-place.place ≡ length old = omega arith in
    c.loop-place.invariant.0 ∙ ap (λ n. mixed row c.args.first n old) all ∙ mixed-all row c.args.first old
