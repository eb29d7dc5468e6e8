use Rattle.std.proofs.Common.{take, map}
use Rattle.value_codes.specs.Numbers.{sent_from}
use Rattle.value_codes.specs.ShortCodes.{widened}
use Rattle.value_codes.specs.ShortSpans.{IsShortSpan}
use Rattle.value_codes.proofs.codes.span_of_short.Given as goal

abbrev pub invariant-loop-tail : goal.invariant-loop-tail
invariant-loop-tail l = IsShortSpan l.span l.tail-index (sent_from (map widened l.numbers) (take l.tail-index l.tails))
