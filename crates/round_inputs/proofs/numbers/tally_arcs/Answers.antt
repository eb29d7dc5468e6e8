use Rattle.std.proofs.Common.{◌≡◌, ◌∙◌, ◌+◌, false, ℤ, List, take, w64, SFits, to_z, of_z, sym, ap, subst, rules, arith}
use Rattle.std.proofs.lemmas.Int.{to_z-of_z}
use Rattle.std.proofs.lemmas.List.{length-take}
use Rattle.graph_model.specs.declared.value.Val.{Val}
use Rattle.vertex_lang.specs.declared.arc.Arc.{Arc}
use Rattle.message_forms.specs.Codes.{value_in}
use Rattle.round_inputs.specs.Numbers.{brought_by, sent_in_view}
use Rattle.value_codes.specs.Spans.{IsSpan, with_message}
use Rattle.value_codes.specs.SentLaws.{sent-few, sent-more}
use Rattle.round_inputs.proofs.numbers.tally_arcs.Goals as goal

abbrev no_arc : Arc
no_arc = record { tail = record { 0 = 0 }; head = record { 0 = 0 }; edge = record { 0 = 0 }; back = false }

pub with-span-requires-clause-room : goal.with-span-requires-clause-room
with-span-requires-clause-room c =
    let i = c.loop-arc.arc-index in
    let so_far = c.loop-arc.invariant.span.size in
    omega (arith, sent-few (brought_by c.args.numbers.now c.args.edges.now) (take i c.args.row.now), length-take i c.args.row.now, c.requires.few)

pub loop-arc-preserved : goal.loop-arc-preserved
loop-arc-preserved c =
    let brought = brought_by c.args.numbers.now c.args.edges.now in
    let row = c.args.row.now in
    let i = c.loop-arc.arc-index in
    let z = c.number_over.result in
    let had = sent_in_view c.args.numbers.now c.args.edges.now (take i row) in
    let fits : SFits w64 z = search rules in
    let more : with_message had (value_in (to_z w64 (of_z w64 z))) ≡ sent_in_view c.args.numbers.now c.args.edges.now (take (i + 1) row) =
    ap (λ (x : ℤ). with_message had (value_in x)) (to_z-of_z w64 z fits) ∙ ap (λ (m : Val). with_message had m) c.number_over.ensures ∙ sym (sent-more brought row i no_arc c.loop-arc-test.true) in
    record {
      span = subst (λ (ms : List Val). IsSpan c.with-span.result ms) more (c.with-span.ensures.span had c.loop-arc.invariant.span);
      bounded = c.with-span.ensures.bounded;
    }
