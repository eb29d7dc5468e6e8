-- One bit more.
use Rattle.std.proofs.Common.{◌∙◌, Bool, List, length, ap, sym, arith}
use Rattle.view_matrix.proofs.Filled.{filled_none, filled_all, filled_set, filled_not, length-filled}
use Rattle.view_matrix.proofs.rules.column_of.Goals as goal
use Rattle.view_matrix.proofs.rules.column_of.Goals.{then-bit, else-bit}

pub loop-place-init : goal.loop-place-init
loop-place-init c = c.in_ok-column.ensures ∙ sym (filled_none c.args.bits.now)

pub set-requires : goal.set-requires
set-requires c = omega (arith, ap (λ (bits : List Bool). length bits) c.loop-place.invariant, length-filled c.args.bits.now c.loop-place.place, c.loop-place-test.true)

pub loop-place-preserved : goal.loop-place-preserved
loop-place-preserved c = elim c.if-bit.branch [
  | then-bit w ↦ w.column-is ∙ w.set.ensures ∙ filled_set c.args.bits.now c.loop-place.column c.loop-place.place c.loop-place.invariant w.if-bit.true
  | else-bit w ↦ w.column-is ∙ filled_not c.args.bits.now c.loop-place.column c.loop-place.place c.loop-place.invariant w.if-bit.false
]

pub returns : goal.returns
returns c = c.loop-place.invariant ∙ filled_all c.args.bits.now c.loop-place.place c.loop-place-test.false
