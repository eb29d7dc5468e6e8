use Rattle.std.proofs.Common.{List, subst, sym, take}
use Rattle.change_text.specs.declared.row.Row.{Row}
use Rattle.change_text.specs.Blocks.{IsRising}
use Rattle.change_text.proofs.Rows.{below_at, differs_at, rising_put_all}
use Rattle.change_text.proofs.place.change_rows.Goals as goal

pub change_row-requires-clause-rising : goal.change_row-requires-clause-rising
change_row-requires-clause-rising c =
    subst (λ (rs : List Row). IsRising rs) (sym c.loop-row.invariant.table) (rising_put_all c.args.table.now (take c.loop-row.row-index c.args.changes.now) c.requires.rising)

pub change_row-requires-clause-below : goal.change_row-requires-clause-below
change_row-requires-clause-below c =
    below_at c.args.changes.now (take c.loop-row.from c.loop-row.table) c.loop-row.row-index _ c.requires.changes c.loop-row-test.true c.loop-row.invariant.below

pub unreachable-requires : goal.unreachable-requires
unreachable-requires c =
    c.in-None.ensures.0 (differs_at c.args.table.now c.args.changes.now c.loop-row.table c.loop-row.row-index _ c.requires.changes c.loop-row-test.true c.requires.differ c.loop-row.invariant.table)
