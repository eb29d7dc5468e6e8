-- A step further.
use Rattle.std.proofs.Common.{◌+◌, ◌-◌, length, arith}
use Rattle.change_text.proofs.Rows.{raise_low, sink_high}
use Rattle.change_text.proofs.place.gallop.Goals as goal

pub returns-then-table-place : goal.returns-then-table-place
returns-then-table-place c =
    sink_high c.args.table.now c.args.id c.narrow.low (length c.args.table.now) (c.narrow.low + (c.narrow.step - 1)) _ c.requires.rising c.narrow.invariant.between (omega arith)
    (omega (arith, c.narrow-test.true, c.narrow.invariant.some)) c.if-table-place.true

pub narrow-preserved : goal.narrow-preserved
narrow-preserved c = record {
  some = omega (arith, c.saturating_mul-step.ensures, c.narrow.invariant.some);
  between = raise_low c.args.table.now c.args.id c.narrow.low (length c.args.table.now) (c.narrow.low + (c.narrow.step - 1)) _ c.requires.rising c.narrow.invariant.between
      (omega (arith, c.narrow-test.true, c.narrow.invariant.some)) c.if-table-place.false;
}
