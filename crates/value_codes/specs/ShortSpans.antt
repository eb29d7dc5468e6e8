-- What numbers of four bytes come to, as the code keeps it while it goes over the arcs into a node.
use Rattle.std.specs.Prelude.{◌≡◌, ◌<◌, ◌≤ℤ◌, ◌+ℤ◌, ◌+◌, ◌*◌, ◌^◌, ℕ, ℤ, pos, neg_ℤ, if◌then◌else◌, List, length}
use Rattle.std.specs.Ordering.{int_eq}
use Rattle.graph_model.specs.declared.value.Val.{Val}
use Rattle.vertex_lang.specs.Values.{greatest}
use Rattle.value_codes.specs.declared.short_span.ShortSpan.{ShortSpan}
use Rattle.value_codes.specs.declared.span.Span.{Span}
use Rattle.value_codes.specs.ShortCodes.{widened}
use Rattle.value_codes.specs.Spans.{IsSpan}

-- the greatest number of four bytes
abbrev pub greatest_short : ℤ
greatest_short = pos 2_147_483_647

-- the least message, where what is kept is one below it, or the greatest number where there is no message
abbrev pub above : ℤ → ℤ
above z = if int_eq z greatest_short then greatest else z +ℤ pos 1

-- what is kept of so many messages, as what they come to: each number that stands for none is taken out of the sum
abbrev pub spanned : ShortSpan → ℕ → Span
spanned short count = record {
  least = above short.least;
  greatest = widened short.greatest;
  total = short.total +ℤ pos (2_147_483_648 * short.nones);
  count = count;
}

-- what is kept of so many numbers, of which these are the messages; their sum is one of so many numbers of four bytes
pub record IsShortSpan (short : ShortSpan) (numbers : ℕ) (ms : List Val) : Type 0 where
  pub span : IsSpan (spanned short (length ms)) ms
  pub size : numbers ≡ short.nones + length ms
  pub low : neg_ℤ (pos (2_147_483_648 * numbers)) ≤ℤ short.total
  pub high : short.total ≤ℤ pos (2_147_483_648 * numbers)

-- one number more can be counted and added: the sum is 2^31 away from the ends of eight bytes
pub record HasRoom (short : ShortSpan) : Type 0 where
  pub few : short.nones < 2 ^ 32
  pub low : neg_ℤ (pos 9_223_372_034_707_292_160) ≤ℤ short.total
  pub high : short.total ≤ℤ pos 9_223_372_034_707_292_160
