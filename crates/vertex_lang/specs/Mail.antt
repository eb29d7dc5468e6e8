-- What nodes have got so far, as the code keeps it while it goes over the arcs.
use Rattle.std.specs.Prelude.{◌≡◌, ◌≢◌, ℕ, pos, ◌+ℤ◌, ◌*ℤ◌, ◌≤ℤ◌, neg_ℤ, ◌+◌, ◌*◌, ◌<◌, Bool, MatchBool, List, length, get_or, fold, replicate}
use Rattle.graph_model.specs.declared.value.Val.{Val}
use Rattle.graph_model.specs.declared.value.Val.TheVariants.{Nil, Num}
use Rattle.graph_model.specs.GraphData.{GraphData, id_of}
use Rattle.vertex_lang.specs.declared.arc.Arc.{Arc}
use Rattle.vertex_lang.specs.declared.program.Program.{Program}
use Rattle.vertex_lang.specs.declared.program.Gather.{Gather}
use Rattle.vertex_lang.specs.declared.program.Gather.TheVariants as gather
use Rattle.vertex_lang.specs.declared.mail.Mail.{Mail}
use Rattle.vertex_lang.specs.Values.{lesser, greater, clamped}
use Rattle.vertex_lang.specs.Arcs.{outdeg, messages, total}
use Rattle.vertex_lang.specs.Expressions.{Answer}
use Rattle.vertex_lang.specs.Rounds.{value_at}

-- the least or the greatest message with one message more, where the one or the other is gathered
abbrev pub extreme_with : Gather → Val → Val → Val
extreme_with gather.Min extreme message = lesser extreme message
extreme_with gather.Max extreme message = greater extreme message
extreme_with gather.Sum extreme message = extreme
extreme_with gather.Count extreme message = extreme

abbrev pub extreme_with_many : Gather → Val → Val → ℕ → Val
extreme_with_many kind extreme message times = fold (extreme_with kind) extreme (replicate times message)

abbrev pub mail_of : Gather → List Val → Mail
mail_of kind ms = record { extreme = fold (extreme_with kind) Nil ms; total = total ms; count = length ms }

abbrev pub no_mail : Mail
no_mail = record { extreme = Nil; total = pos 0; count = 0 }

-- with one message more; none isn't sent
abbrev pub mail_with : Gather → Mail → Val → Mail
mail_with kind mail Nil = mail
mail_with kind mail (Num z) = record { extreme = extreme_with kind mail.extreme (Num z); total = mail.total +ℤ z; count = mail.count + 1 }

-- with a message more, as often as the number says; none isn't sent
abbrev pub mail_with_many : Gather → Mail → Val → ℕ → Mail
mail_with_many kind mail Nil times = mail
mail_with_many kind mail (Num z) times = record { extreme = extreme_with_many kind mail.extreme (Num z) times; total = mail.total +ℤ (z *ℤ pos times); count = mail.count + times }

-- what is gathered of it
abbrev pub gathered_in : Gather → Mail → Val
gathered_in gather.Min mail = mail.extreme
gathered_in gather.Max mail = mail.extreme
gathered_in gather.Sum mail = Num (clamped mail.total)
gathered_in gather.Count mail = Num (pos mail.count)

-- the sum is one of so many numbers from -(2^63) to 2^63
pub record IsBounded (mail : Mail) : Type 0 where
  pub low : neg_ℤ (pos (9_223_372_036_854_775_808 * mail.count)) ≤ℤ mail.total
  pub high : mail.total ≤ℤ pos (9_223_372_036_854_775_808 * mail.count)

abbrev pub AreBounded : List Mail → Type 0
AreBounded mail = (v : ℕ) → v < length mail → IsBounded (get_or mail v no_mail)

-- each node has the messages of these arcs, where each arc carries this
abbrev pub HasMail : Gather → (Arc → Val) → List Arc → List Mail → Type 0
HasMail kind carried arcs mail = (v : ℕ) → v < length mail → get_or mail v no_mail ≡ mail_of kind (messages carried arcs v)

-- how many arcs leave each node
abbrev pub HasDegrees : List Arc → List ℕ → Type 0
HasDegrees arcs degrees = (u : ℕ) → u < length degrees → get_or degrees u 0 ≡ outdeg arcs u

-- a node's next value, from its mail
abbrev pub next_from : Answer → Program → GraphData → List Val → List Mail → List Val → ℕ → Val
next_from answer p graph starts mail values v =
    let got = get_or mail v no_mail in
    answer p (id_of graph v) (value_at starts v) (value_at values v) (gathered_in p.gather got) got.count

-- whether they differ
abbrev pub TellsChange : Bool → List Val → List Val → Type 0
TellsChange changed new old = MatchBool changed (new ≢ old) (new ≡ old)
