use Rattle.std.proofs.Common.{◌≡◌, ◌∙◌, ◌+ℤ◌, ℕ, ℤ, true, List, w64, SFits, to_z, of_z, append-nil, sym, ap, subst, rules, arith}
use Rattle.std.proofs.lemmas.Int.{ints, to_z-of_z}
use Rattle.graph_model.specs.declared.value.Val.{Val}
use Rattle.graph_model.specs.declared.value.Val.TheVariants.{Nil, Num}
use Rattle.vertex_lang.specs.Values.{added, clamped, lowest_number}
use Rattle.message_forms.specs.Codes.{value_in}
use Rattle.message_forms.specs.NumberLaws.{clamped-is, none-is, number-is}
use Rattle.value_codes.specs.Spans.{IsSpan, with_message}
use Rattle.value_codes.proofs.numbers.with_link.Goals as goal

pub returns-then-number-eq-NONE-clause-span : goal.returns-then-number-eq-NONE-clause-span
returns-then-number-eq-NONE-clause-span c = λ ms h.
    let number = c.args.number in
    let step = c.args.step in
    let fits : SFits w64 number = search rules in
    let none : number ≡ lowest_number = sym (to_z-of_z w64 number fits) ∙ ap (λ (n : ℕ). to_z w64 n) c.if-number-eq-NONE.true in
    let nothing : added true (value_in number) (value_in step) ≡ Nil = ap (λ (x : Val). added true x (value_in step)) (none-is number none) in
    let still : ms ≡ with_message ms (added true (value_in number) (value_in step)) = sym (append-nil ms) ∙ sym (ap (λ (m : Val). with_message ms m) nothing) in
    subst (λ (xs : List Val). IsSpan c.args.span xs) still h

pub returns-then-step-eq-NONE-clause-span : goal.returns-then-step-eq-NONE-clause-span
returns-then-step-eq-NONE-clause-span c = λ ms h.
    let number = c.args.number in
    let step = c.args.step in
    let fits : SFits w64 step = search rules in
    let none : step ≡ lowest_number = sym (to_z-of_z w64 step fits) ∙ ap (λ (n : ℕ). to_z w64 n) c.if-step-eq-NONE.true in
    let some : value_in number ≡ Num number = number-is number (λ e. c.if-number-eq-NONE.false (ap (λ (z : ℤ). of_z w64 z) e)) in
    let nothing : added true (value_in number) (value_in step) ≡ Nil = ap (λ (x : Val). added true x (value_in step)) some ∙ ap (λ (x : Val). added true (Num number) x) (none-is step none) in
    let still : ms ≡ with_message ms (added true (value_in number) (value_in step)) = sym (append-nil ms) ∙ sym (ap (λ (m : Val). with_message ms m) nothing) in
    subst (λ (xs : List Val). IsSpan c.args.span xs) still h

pub with_number-requires-clause-some : goal.with_number-requires-clause-some
with_number-requires-clause-some c = λ e.
    let sum = c.sum_of.result in
    let fits : SFits w64 sum = search rules in
    grind (arith, ints, to_z-of_z w64 sum fits, c.sum_of.ensures)

pub returns-clause-span : goal.returns-clause-span
returns-clause-span c = λ ms h.
    let number = c.args.number in
    let step = c.args.step in
    let sum = c.sum_of.result in
    let fits : SFits w64 sum = search rules in
    let exact : to_z w64 (of_z w64 number) +ℤ to_z w64 (of_z w64 step) ≡ number +ℤ step = omega (arith, ints) in
    let sum_is : sum ≡ clamped (number +ℤ step) = c.sum_of.ensures ∙ ap (λ (z : ℤ). clamped z) exact in
    let is : value_in (to_z w64 (of_z w64 sum)) ≡ added true (value_in number) (value_in step) =
    ap value_in (to_z-of_z w64 sum fits ∙ sum_is) ∙ clamped-is (number +ℤ step)
    ∙ sym (ap (λ (x : Val). added true x (value_in step)) (number-is number (λ e. c.if-number-eq-NONE.false (ap (λ (z : ℤ). of_z w64 z) e)))
    ∙ ap (λ (x : Val). added true (Num number) x) (number-is step (λ e. c.if-step-eq-NONE.false (ap (λ (z : ℤ). of_z w64 z) e)))) in
    subst (λ (m : Val). IsSpan c.with_number.result (with_message ms m)) is (c.with_number.ensures.span ms h)
