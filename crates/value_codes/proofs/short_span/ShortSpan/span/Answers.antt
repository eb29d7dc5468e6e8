use Rattle.std.proofs.Common.{◌∙◌, ◌+ℤ◌, ◌*◌, ℤ, pos, length, w32, w64, SFits, ap, rules, arith}
use Rattle.std.proofs.lemmas.Int.{to_z-of_z}
use Rattle.std.specs.Int.{w128}
use Rattle.value_codes.specs.ShortCodes.{widened}
use Rattle.value_codes.specs.ShortSpans.{above, spanned}
use Rattle.value_codes.proofs.Spanning.{span-same}
use Rattle.value_codes.proofs.short_span.ShortSpan.span.Goals as goal

pub returns : goal.returns
returns c = λ ms h.
    let self = c.args.self in
    let least_fits : SFits w32 self.least = search rules in
    let greatest_fits : SFits w32 self.greatest = search rules in
    let total_fits : SFits w64 self.total = search rules in
    let above_fits : SFits w64 c.above.result = search rules in
    let widen_fits : SFits w64 c.widen.result = search rules in
    let sum_fits : SFits w128 c.total_of.result = search rules in
    span-same (spanned self (length ms)) _ ms
    (to_z-of_z w64 c.above.result above_fits ∙ c.above.ensures ∙ ap above (to_z-of_z w32 self.least least_fits))
    (to_z-of_z w64 c.widen.result widen_fits ∙ c.widen.ensures ∙ ap widened (to_z-of_z w32 self.greatest greatest_fits))
    (to_z-of_z w128 c.total_of.result sum_fits ∙ c.total_of.ensures ∙ ap (λ (x : ℤ). x +ℤ pos (2_147_483_648 * self.nones)) (to_z-of_z w64 self.total total_fits))
    (omega (arith, h.size)) h.span
