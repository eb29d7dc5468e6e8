use Rattle.std.proofs.Common.{◌≡◌, ◌∙◌, ◌+ℤ◌, ℤ, pos, w64, SFits, to_z, of_z, ap, sym, rules, arith}
use Rattle.std.specs.Int.{int_min, int_max}
use Rattle.std.proofs.lemmas.Int.{ints, to_z-of_z}
use Rattle.vertex_lang.specs.Values.{lowest_number}
use Rattle.message_forms.specs.Codes.{value_in}
use Rattle.value_codes.specs.Spans.{with_message}
use Rattle.value_codes.proofs.Spanning.{span-more}
use Rattle.value_codes.proofs.span.Span.with_number.Goals as goal

pub returns-clause-span : goal.returns-clause-span
returns-clause-span c = λ ms h.
    let self = c.args.self in
    let z = c.args.number in
    let fits : SFits w64 z = search rules in
    let least_fits : SFits w64 self.least = search rules in
    let greatest_fits : SFits w64 self.greatest = search rules in
    let min_fits : SFits w64 c.min.result = search rules in
    let max_fits : SFits w64 c.max.result = search rules in
    let number = to_z-of_z w64 z fits in
    let least_is = to_z-of_z w64 c.min.result min_fits ∙ c.min.ensures.value ∙ ap (λ (x : ℤ). int_min x (to_z w64 (of_z w64 z))) (to_z-of_z w64 self.least least_fits)
    ∙ ap (λ (x : ℤ). int_min self.least x) number in
    let greatest_is = to_z-of_z w64 c.max.result max_fits ∙ c.max.ensures.value ∙ ap (λ (x : ℤ). int_max x (to_z w64 (of_z w64 z))) (to_z-of_z w64 self.greatest greatest_fits)
    ∙ ap (λ (x : ℤ). int_max self.greatest x) number in
    let other : z ≡ lowest_number → ⊥ = λ e. c.requires.some e in
    span-more self _ ms z fits other least_is greatest_is (omega (arith, ints)) (omega arith) h
