use Rattle.std.proofs.Common.{take}
use Rattle.round_inputs.specs.Numbers.{sent_with}
use Rattle.value_codes.specs.Spans.{IsSpan, sums_of}
use Rattle.value_codes.specs.Tallies.{IsBounded}
use Rattle.round_inputs.proofs.numbers.tally_steps.Given as goal

abbrev pub invariant-loop-arc : goal.invariant-loop-arc
invariant-loop-arc l = record {
  span : IsSpan l.span (sent_with l.graph l.column l.numbers l.edges (take l.arc-index l.row));
  bounded : IsBounded (sums_of l.span);
}
