use Rattle.std.proofs.Common.{take}
use Rattle.value_codes.specs.Numbers.{sent_over}
use Rattle.value_codes.specs.Spans.{IsSpan, sums_of}
use Rattle.value_codes.specs.Tallies.{IsBounded}
use Rattle.value_codes.proofs.numbers.span_of_links.Given as goal

abbrev pub invariant-loop-link : goal.invariant-loop-link
invariant-loop-link l = record {
  span : IsSpan l.span (sent_over l.numbers (take l.link-index l.links));
  bounded : IsBounded (sums_of l.span);
}
