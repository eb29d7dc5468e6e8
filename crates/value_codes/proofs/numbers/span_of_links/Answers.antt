use Rattle.std.proofs.Common.{◌≡◌, ◌∙◌, ◌+◌, true, ℤ, pos, List, get_or, take, w64, SFits, to_z, of_z, sym, ap, subst, rules, arith}
use Rattle.std.proofs.lemmas.Int.{to_z-of_z}
use Rattle.std.proofs.lemmas.List.{length-take}
use Rattle.graph_model.specs.declared.value.Val.{Val}
use Rattle.vertex_lang.specs.Values.{added}
use Rattle.message_forms.specs.declared.edge_step.Link.{Link}
use Rattle.value_codes.specs.Numbers.{sent_over}
use Rattle.message_forms.specs.Codes.{number_at, value_in}
use Rattle.value_codes.specs.Spans.{IsSpan, with_message}
use Rattle.value_codes.specs.SentLaws.{sent-few, sent-more}
use Rattle.value_codes.proofs.numbers.span_of_links.Goals as goal

abbrev no_link : Link
no_link = record { tail = record { 0 = 0 }; step = pos 0 }

pub with_link-span-requires-clause-room : goal.with_link-span-requires-clause-room
with_link-span-requires-clause-room c =
    let i = c.loop-link.link-index in
    let so_far = c.loop-link.invariant.span.size in
    omega (
      arith,
      sent-few (λ (l : Link). added true (number_at c.args.numbers.now l.tail.0) (value_in l.step)) (take i c.args.links.now),
      length-take i c.args.links.now,
      c.requires.few,
    )

pub loop-link-preserved : goal.loop-link-preserved
loop-link-preserved c =
    let numbers = c.args.numbers.now in
    let links = c.args.links.now in
    let i = c.loop-link.link-index in
    let l = get_or links i no_link in
    let z = get_or numbers l.tail.0 (pos 0) in
    let had = sent_over numbers (take i links) in
    let fits : SFits w64 z = search rules in
    let step_fits : SFits w64 l.step = search rules in
    let brought = added true (value_in (to_z w64 (of_z w64 z))) (value_in (to_z w64 (of_z w64 l.step))) in
    let is : brought ≡ added true (value_in z) (value_in l.step) =
    ap (λ (x : ℤ). added true (value_in x) (value_in (to_z w64 (of_z w64 l.step)))) (to_z-of_z w64 z fits)
    ∙ ap (λ (x : ℤ). added true (value_in z) (value_in x)) (to_z-of_z w64 l.step step_fits) in
    let more : with_message had brought ≡ sent_over numbers (take (i + 1) links) =
    ap (λ (m : Val). with_message had m) is ∙ sym (sent-more (λ (l : Link). added true (number_at numbers l.tail.0) (value_in l.step)) links i no_link c.loop-link-test.true) in
    record {
      span = subst (λ (ms : List Val). IsSpan c.with_link-span.result ms) more (c.with_link-span.ensures.span had c.loop-link.invariant.span);
      bounded = c.with_link-span.ensures.bounded;
    }
