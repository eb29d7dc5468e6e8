use Rattle.std.proofs.Common.{arith}
use Rattle.change_text.proofs.Rows.{row_found, row_missing, row_past, row_same}
use Rattle.change_text.proofs.place.change_row.Goals as goal

pub returns-then-place-table : goal.returns-then-place-table
returns-then-place-table c = row_past c.args.table.now c.halve-place.result c.args.row c.args.row c.requires.rising c.halve-place.ensures c.if-place-table.true

pub returns-then-table-place : goal.returns-then-table-place
returns-then-table-place c =
    row_missing c.args.table.now c.halve-place.result c.args.row _ c.requires.rising c.halve-place.ensures (omega (arith, c.halve-place.ensures.within, c.if-place-table.false)) c.if-table-place.true

pub returns-then-not-differ : goal.returns-then-not-differ
returns-then-not-differ c =
    row_same c.args.table.now c.halve-place.result c.args.row _ c.requires.rising c.halve-place.ensures (omega (arith, c.halve-place.ensures.within, c.if-place-table.false)) c.if-table-place.false
    c.if-not-differ.ensures

pub returns : goal.returns
returns c =
    row_found c.args.table.now c.halve-place.result c.args.row _ c.requires.rising c.halve-place.ensures (omega (arith, c.halve-place.ensures.within, c.if-place-table.false)) c.if-table-place.false
    c.if-not-differ.ensures
