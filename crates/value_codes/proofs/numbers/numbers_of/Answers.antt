use Rattle.std.proofs.Common.{◌∙◌, ◌++◌, ◌∷◌, [], ℤ, SFits, w64, ap, rules}
use Rattle.std.proofs.lemmas.Int.{to_z-of_z}
use Rattle.value_codes.proofs.Numbered.{one-number}
use Rattle.value_codes.proofs.numbers.numbers_of.Goals as goal

pub loop-value-preserved : goal.loop-value-preserved
loop-value-preserved c =
    let numbers = c.loop-value.numbers.items in
    let z = c.in-Some.number in
    let fits : SFits w64 z = search rules in
    one-number c.args.values.now c.loop-value.value-index numbers c.push.new.self.items z c.loop-value-test.true c.in-Some.ensures
    (c.in_ok-push-in-Some.ensures.items ∙ ap (λ (x : ℤ). numbers ++ x ∷ []) (to_z-of_z w64 z fits)) c.loop-value.invariant
