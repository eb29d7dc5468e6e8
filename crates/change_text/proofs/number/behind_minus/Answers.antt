use Rattle.std.proofs.Common.{ℕ, decimal, sym, ap, ◌∙◌}
use Rattle.change_text.proofs.Split.{some_items}
use Rattle.change_text.proofs.Numbers.{below_not_read, zero_below}
use Rattle.change_text.proofs.number.behind_minus.Goals as goal

pub returns-in_default : goal.returns-in_default
returns-in_default c = below_not_read c.args.digits.now (some_items c.args.digits.now (sym c.if-is_empty.ensures)) c.in_default.ensures

pub returns-then-number-eq0 : goal.returns-then-number-eq0
returns-then-number-eq0 c = zero_below c.args.digits.now (c.in-Some.ensures.1 ∙ ap (λ (n : ℕ). decimal n) c.if-number-eq0.true)
