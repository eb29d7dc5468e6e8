-- Half of the range.
use Rattle.std.proofs.Common.{◌+◌, ◌-◌, ◌/◌, arith}
use Rattle.change_text.proofs.Rows.{raise_low, sink_high}
use Rattle.change_text.proofs.place.halve.Goals as goal

pub halves-preserved-then-table-middle : goal.halves-preserved-then-table-middle
halves-preserved-then-table-middle c =
    raise_low c.args.table.now c.args.id c.halves.low c.halves.high (c.halves.low + (c.halves.high - c.halves.low) / 2) _ c.requires.rising c.halves.invariant (omega arith) c.if-table-middle.true

pub halves-preserved : goal.halves-preserved
halves-preserved c =
    sink_high c.args.table.now c.args.id c.halves.low c.halves.high (c.halves.low + (c.halves.high - c.halves.low) / 2) _ c.requires.rising c.halves.invariant (omega arith) (omega (arith, c.halves.invariant.within)) c.if-table-middle.false
