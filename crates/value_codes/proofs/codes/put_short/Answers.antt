use Rattle.std.proofs.Common.{◌≡◌, ◌∙◌, ℤ, List, map, w32, SFits, to_z, of_z, sym, ap, subst, rules, arith}
use Rattle.std.proofs.lemmas.Int.{to_z-of_z}
use Rattle.std.proofs.lemmas.List.{map-set, length-map}
use Rattle.message_forms.specs.Codes.{value_in}
use Rattle.value_codes.specs.Numbers.{IsPut}
use Rattle.value_codes.specs.ShortCodes.{widened}
use Rattle.value_codes.proofs.Messages.{set-put}
use Rattle.value_codes.proofs.codes.put_short.Goals as goal

pub returns-in-Some : goal.returns-in-Some
returns-in-Some c = λ on.
    let numbers = c.args.numbers.now in
    let place = c.args.place in
    let short = c.in-Some.short in
    let fits : SFits w32 short = search rules in
    let z = to_z w32 (of_z w32 short) in
    let here : value_in (widened z) ≡ c.args.message = ap (λ (x : ℤ). value_in (widened x)) (to_z-of_z w32 short fits) ∙ c.in-Some.ensures in
    subst (λ (zs : List ℤ). IsPut place c.args.message (map widened numbers) zs) (sym (map-set widened numbers place z))
    (set-put (map widened numbers) place (widened z) c.args.message (omega (arith, c.requires, length-map numbers widened)) here)
