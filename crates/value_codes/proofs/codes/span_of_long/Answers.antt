use Rattle.std.proofs.Common.{◌≡◌, ◌∙◌, ◌+◌, ℤ, pos, List, get_or, take, w64, SFits, to_z, of_z, sym, ap, subst, rules, arith}
use Rattle.std.proofs.lemmas.Int.{to_z-of_z}
use Rattle.std.proofs.lemmas.List.{length-take}
use Rattle.graph_model.specs.declared.number.NodeNo.{NodeNo}
use Rattle.graph_model.specs.declared.value.Val.{Val}
use Rattle.message_forms.specs.Codes.{number_at, value_in}
use Rattle.value_codes.specs.Numbers.{sent_from}
use Rattle.value_codes.specs.Spans.{IsSpan, with_message}
use Rattle.value_codes.specs.SentLaws.{sent-few, sent-more}
use Rattle.value_codes.proofs.codes.span_of_long.Goals as goal

abbrev no_node : NodeNo
no_node = record { 0 = 0 }

pub with-span-requires-clause-room : goal.with-span-requires-clause-room
with-span-requires-clause-room c =
    let i = c.loop-tail.tail-index in
    let so_far = c.loop-tail.invariant.span.size in
    omega (arith, sent-few (λ (t : NodeNo). number_at c.args.numbers.now t.0) (take i c.args.tails.now), length-take i c.args.tails.now, c.requires.few)

pub loop-tail-preserved : goal.loop-tail-preserved
loop-tail-preserved c =
    let numbers = c.args.numbers.now in
    let tails = c.args.tails.now in
    let i = c.loop-tail.tail-index in
    let z = get_or numbers (get_or tails i no_node).0 (pos 0) in
    let had = sent_from numbers (take i tails) in
    let fits : SFits w64 z = search rules in
    let more : with_message had (value_in (to_z w64 (of_z w64 z))) ≡ sent_from numbers (take (i + 1) tails) =
    ap (λ (x : ℤ). with_message had (value_in x)) (to_z-of_z w64 z fits) ∙ sym (sent-more (λ (t : NodeNo). number_at numbers t.0) tails i no_node c.loop-tail-test.true) in
    record {
      span = subst (λ (ms : List Val). IsSpan c.with-span.result ms) more (c.with-span.ensures.span had c.loop-tail.invariant.span);
      bounded = c.with-span.ensures.bounded;
    }
