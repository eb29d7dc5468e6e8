use Rattle.std.proofs.Common.{◌≡◌, ◌∙◌, ◌+◌, ℕ, ℤ, pos, List, length, get_or, take, map, w32, SFits, to_z, of_z, sym, ap, subst, rules, arith}
use Rattle.std.proofs.lemmas.Int.{ints, to_z-of_z}
use Rattle.std.proofs.lemmas.List.{get_or-map, take_all}
use Rattle.graph_model.specs.declared.number.NodeNo.{NodeNo}
use Rattle.graph_model.specs.declared.value.Val.{Val}
use Rattle.message_forms.specs.Codes.{number_at, value_in}
use Rattle.value_codes.specs.Numbers.{sent_from}
use Rattle.value_codes.specs.ShortCodes.{widened}
use Rattle.value_codes.specs.ShortSpans.{IsShortSpan}
use Rattle.value_codes.specs.Spans.{with_message}
use Rattle.value_codes.specs.SentLaws.{sent-more}
use Rattle.value_codes.proofs.codes.span_of_short.Goals as goal

abbrev no_node : NodeNo
no_node = record { 0 = 0 }

pub loop-tail-preserved : goal.loop-tail-preserved
loop-tail-preserved c =
    let short = c.args.numbers.now in
    let numbers = map widened short in
    let tails = c.args.tails.now in
    let i = c.loop-tail.tail-index in
    let u = (get_or tails i no_node).0 in
    let had = sent_from numbers (take i tails) in
    let held = get_or short u (pos 0) in
    let fits : SFits w32 held = search rules in
    let here : widened (to_z w32 (of_z w32 held)) ≡ get_or numbers u (pos 0) = ap widened (to_z-of_z w32 held fits) ∙ sym (get_or-map widened short u (pos 0) (pos 0) (c.requires.tails i no_node c.loop-tail-test.true)) in
    let more : with_message had (value_in (widened (to_z w32 (of_z w32 held)))) ≡ sent_from numbers (take (i + 1) tails) =
    ap (λ (x : ℤ). with_message had (value_in x)) here ∙ sym (sent-more (λ (t : NodeNo). number_at numbers t.0) tails i no_node c.loop-tail-test.true) in
    subst (λ (ms : List Val). IsShortSpan c.with-span.result (i + 1) ms) more (c.with-span.ensures i had c.loop-tail.invariant)

pub with-span-requires : goal.with-span-requires
with-span-requires c =
    let h = c.loop-tail.invariant in
    let few = c.requires.few in
    record {
      few = omega (arith, h.size, few);
      low = omega (arith, ints, h.low, few);
      high = omega (arith, ints, h.high, few);
    }

pub span-requires : goal.span-requires
span-requires c = omega (arith, c.loop-tail.invariant.size)

pub returns : goal.returns
returns c =
    let numbers = map widened c.args.numbers.now in
    let tails = c.args.tails.now in
    let i = c.loop-tail.tail-index in
    let end : i ≡ length tails = omega (arith, c.loop-tail-test.false, c.loop-tail.auto.tail-index-end) in
    let whole : take i tails ≡ tails = take_all i tails c.loop-tail-test.false in
    c.span.ensures (sent_from numbers tails)
    (subst (λ (ts : List NodeNo). IsShortSpan c.loop-tail.span (length tails) (sent_from numbers ts)) whole
    (subst (λ (n : ℕ). IsShortSpan c.loop-tail.span n (sent_from numbers (take i tails))) end c.loop-tail.invariant))
