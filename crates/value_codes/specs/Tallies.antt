-- What messages come to, as the code keeps it while it goes over the arcs into a node.
use Rattle.std.specs.Prelude.{pos, ◌+ℤ◌, ◌≤ℤ◌, neg_ℤ, ◌+◌, ◌*◌, List, length, fold}
use Rattle.graph_model.specs.declared.value.Val.{Val}
use Rattle.graph_model.specs.declared.value.Val.TheVariants.{Nil, Num}
use Rattle.vertex_lang.specs.declared.program.Gather.{Gather}
use Rattle.vertex_lang.specs.Arcs.{total}
use Rattle.vertex_lang.specs.Mail.{extreme_with}
use Rattle.vertex_lang.specs.Values.{clamped}
use Rattle.value_codes.specs.declared.tally.Tally.{Tally}
use Rattle.value_codes.specs.declared.tally.Kept.{Kept}
use Rattle.vertex_lang.specs.declared.program.Gather.TheVariants as gather

abbrev pub tally_of : Gather → List Val → Tally
tally_of kind ms = record { extreme = fold (extreme_with kind) Nil ms; total = total ms; count = length ms }

abbrev pub no_tally : Tally
no_tally = record { extreme = Nil; total = pos 0; count = 0 }

-- with one message more; none isn't sent
abbrev pub tally_with : Gather → Tally → Val → Tally
tally_with kind tally Nil = tally
tally_with kind tally (Num z) = record { extreme = extreme_with kind tally.extreme (Num z); total = tally.total +ℤ z; count = tally.count + 1 }

-- what is gathered of it
abbrev pub gathered_in : Gather → Tally → Val
gathered_in gather.Min tally = tally.extreme
gathered_in gather.Max tally = tally.extreme
gathered_in gather.Sum tally = Num (clamped tally.total)
gathered_in gather.Count tally = Num (pos tally.count)

-- the sum is one of so many numbers from -(2^63) to 2^63
pub record IsBounded (tally : Tally) : Type 0 where
  pub low : neg_ℤ (pos (9_223_372_036_854_775_808 * tally.count)) ≤ℤ tally.total
  pub high : tally.total ≤ℤ pos (9_223_372_036_854_775_808 * tally.count)

-- what is kept of messages
abbrev pub kept_of : Tally → Kept
kept_of tally = record { total = clamped tally.total; count = tally.count }
