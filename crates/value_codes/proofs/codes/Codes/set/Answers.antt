use Rattle.std.proofs.Common.{◌≡◌, ◌∙◌, ℤ, List, map, set, w32, w64, SFits, to_z, of_z, sym, ap, rules}
use Rattle.std.proofs.lemmas.Int.{to_z-of_z}
use Rattle.std.proofs.lemmas.List.{map-set}
use Rattle.value_codes.specs.declared.codes.Held.{Held}
use Rattle.value_codes.specs.ShortCodes.{codes_in, widened}
use Rattle.value_codes.proofs.codes.Codes.set.Goals as goal

pub returns-in-Some : goal.returns-in-Some
returns-in-Some c =
    let items = c.in-Short.list.items in
    let place = c.args.place in
    let short = c.in-Some.short in
    let number = c.args.number in
    let fits_short : SFits w32 short = search rules in
    let fits : SFits w64 number = search rules in
    let here : widened (to_z w32 (of_z w32 short)) ≡ number = ap widened (to_z-of_z w32 short fits_short) ∙ c.in-Some.ensures ∙ to_z-of_z w64 number fits in
    λ on. map-set widened items place (to_z w32 (of_z w32 short)) ∙ ap (λ (z : ℤ). set (map widened items) place z) here
    ∙ ap (λ (zs : List ℤ). set zs place number) (ap (λ (h : Held). codes_in h) (sym c.in-Short.is) ∙ c.self.view_is)
