use Rattle.std.proofs.Common.{◌∙◌, w64, SFits, ap, sym, rules}
use Rattle.std.proofs.lemmas.Int.{to_z-of_z}
use Rattle.graph_model.specs.declared.value.Val.TheVariants.{Nil}
use Rattle.vertex_lang.specs.declared.program.Gather.{Gather}
use Rattle.vertex_lang.specs.Mail.{extreme_with}
use Rattle.std.specs.Prelude.{fold}
use Rattle.message_forms.specs.Codes.{value_in}
use Rattle.value_codes.proofs.Spanning.{no-extreme}
use Rattle.value_codes.proofs.span.Span.extreme.Goals as goal

pub returns-in-Max : goal.returns-in-Max
returns-in-Max c = λ ms h.
    let z = c.args.self.greatest in
    let fits : SFits w64 z = search rules in
    c.value_of.ensures ∙ ap value_in (to_z-of_z w64 z fits) ∙ sym h.high ∙ ap (λ (kind : Gather). fold (extreme_with kind) Nil ms) (sym c.in-Max.is)

pub returns-in-Sum : goal.returns-in-Sum
returns-in-Sum c = λ ms h. sym (no-extreme ms) ∙ ap (λ (kind : Gather). fold (extreme_with kind) Nil ms) (sym c.in-Sum.is)

pub returns-in-Count : goal.returns-in-Count
returns-in-Count c = λ ms h. sym (no-extreme ms) ∙ ap (λ (kind : Gather). fold (extreme_with kind) Nil ms) (sym c.in-Count.is)
