use Rattle.std.proofs.Common.{◌≡◌, ◌∙◌, ◌++◌, ◌∷◌, [], true, ℤ, pos, List, get_or, filter, w64, SFits, to_z, of_z, ap, sym, subst, refl, rules}
use Rattle.std.proofs.lemmas.Int.{to_z-of_z}
use Rattle.std.specs.Prelude.{OnOk}
use Rattle.graph_model.specs.declared.value.Val.{Val}
use Rattle.vertex_lang.specs.Arcs.{is_sent}
use Rattle.vertex_lang.specs.Rounds.{value_at}
use Rattle.vertex_lang.specs.Values.{added}
use Rattle.message_forms.specs.Codes.{value_in, number_at}
use Rattle.value_codes.specs.Numbers.{number_over}
use Rattle.round_inputs.specs.Links.{brought_over}
use Rattle.round_inputs.specs.Inputs.{AreLeft}
use Rattle.round_inputs.proofs.Leftovers.{left-same}
use Rattle.round_inputs.proofs.tails.push_over_link.Goals as goal

pub returns-then-not-moves : goal.returns-then-not-moves
returns-then-not-moves c = λ all more had.
    left-same c.args.first.now.items c.args.second.now.items all more _ _ (number_over c.args.numbers.now c.args.link) (brought_over c.args.values.now c.args.link) refl refl (c.requires.still (sym c.moves.ensures ∙ c.if-not-moves.true)) had

pub returns : goal.returns
returns c =
    let here = c.with_step-here.result in
    let first = c.push_unlike.new.first.items in
    let second = c.push_unlike.new.second.items in
    let was = c.args.first.now.items in
    let had = c.args.second.now.items in
    let done = c.push_unlike.result in
    let step = c.args.link.step in
    let u = c.args.link.tail.0 in
    let number = get_or c.args.numbers.now u (pos 0) in
    let fits : SFits w64 step = search rules in
    let known : SFits w64 number = search rules in
    let sum : here ≡ number_over c.args.numbers.now c.args.link =
    c.with_step-here.ensures
    ∙ ap (λ (x : Val). added true x (value_in (to_z w64 (of_z w64 step)))) (c.value_of.ensures ∙ ap value_in (to_z-of_z w64 number known))
    ∙ ap (λ (z : ℤ). added true (number_at c.args.numbers.now u) (value_in z)) (to_z-of_z w64 step fits) in
    let other : c.with_step-there.result ≡ brought_over c.args.values.now c.args.link =
    c.with_step-there.ensures ∙ ap (λ (z : ℤ). added true (value_at c.args.values.now u) (value_in z)) (to_z-of_z w64 step fits) in
    subst (λ (m : Val). OnOk done ((all more : List Val) → AreLeft was had all more → AreLeft first second (all ++ filter is_sent (m ∷ [])) (more ++ filter is_sent (brought_over c.args.values.now c.args.link ∷ []))))
    sum
    (subst (λ (m : Val). OnOk done ((all more : List Val) → AreLeft was had all more → AreLeft first second (all ++ filter is_sent (here ∷ [])) (more ++ filter is_sent (m ∷ [])))) other
    c.push_unlike.ensures)
