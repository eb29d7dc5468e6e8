-- What messages come to, whichever way they are gathered.
use Rattle.std.specs.Prelude.{◌≡◌, ◌==◌, ◌++◌, ◌∷◌, [], if◌then◌else◌, List, length, filter, fold}
use Rattle.graph_model.specs.declared.value.Val.{Val}
use Rattle.graph_model.specs.declared.value.Val.TheVariants.{Nil, Num}
use Rattle.vertex_lang.specs.Arcs.{is_sent, total}
use Rattle.vertex_lang.specs.Values.{lesser, greater, greatest}
use Rattle.value_codes.specs.declared.span.Span.{Span}
use Rattle.value_codes.specs.declared.tally.Tally.{Tally}
use Rattle.message_forms.specs.Codes.{value_in}

-- the messages with one more; none isn't sent
abbrev pub with_message : List Val → Val → List Val
with_message ms m = ms ++ filter is_sent (m ∷ [])

-- what these messages come to
pub record IsSpan (span : Span) (ms : List Val) : Type 0 where
  pub low : fold lesser Nil ms ≡ (if span.count == 0 then Nil else Num span.least)
  pub high : fold greater Nil ms ≡ value_in span.greatest
  pub sum : span.total ≡ total ms
  pub size : span.count ≡ length ms
  -- with no message each number is less
  pub start : span.count ≡ 0 → span.least ≡ greatest

-- how many messages there are, and their sum
abbrev pub sums_of : Span → Tally
sums_of span = record { extreme = Nil; total = span.total; count = span.count }
