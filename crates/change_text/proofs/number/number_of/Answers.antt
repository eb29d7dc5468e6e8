use Rattle.std.proofs.Common.{sym}
use Rattle.change_text.proofs.Split.{no_items, some_items}
use Rattle.change_text.proofs.Numbers.{nothing_spelled, read_by, zero_leads, zero_spelled}
use Rattle.change_text.proofs.number.number_of.Goals as goal

pub returns-then-is_empty : goal.returns-then-is_empty
returns-then-is_empty c = nothing_spelled c.args.digits.now (no_items c.args.digits.now (sym c.if-is_empty.ensures))

pub returns-then-digits-eq1 : goal.returns-then-digits-eq1
returns-then-digits-eq1 c = zero_spelled c.args.digits.now c.if-digits-eq48.true c.if-digits-eq1.true

pub returns-else-digits-eq1 : goal.returns-else-digits-eq1
returns-else-digits-eq1 c = zero_leads c.args.digits.now c.if-digits-eq48.true c.if-digits-eq1.false

pub returns : goal.returns
returns c =
    read_by c.args.digits.now c.value_of.result (some_items c.args.digits.now (sym c.if-is_empty.ensures)) c.if-digits-eq48.false c.value_of.ensures.digits c.value_of.ensures.value c.value_of.ensures.limit
    c.value_of.ensures.none
