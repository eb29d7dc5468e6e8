-- Lists of values as numbers, and what arcs bring that are read from them.
use Rattle.std.specs.Prelude.{◌≡◌, ◌≢◌, ◌<◌, ℕ, ℤ, true, if◌then◌else◌, List, length, map, filter, Option}
use Rattle.graph_model.specs.declared.number.NodeNo.{NodeNo}
use Rattle.graph_model.specs.declared.value.Val.{Val}
use Rattle.vertex_lang.specs.Arcs.{is_sent}
use Rattle.vertex_lang.specs.Rounds.{value_at}
use Rattle.vertex_lang.specs.Values.{added}
use Rattle.change_lists.specs.declared.history.Change.{Change}
use Rattle.change_lists.specs.ChangeLists.{is_changed}
use Rattle.message_forms.specs.Codes.{value_in, number_at}
use Rattle.message_forms.specs.Forms.{message_with}
use Rattle.message_forms.specs.declared.edge_step.Link.{Link}

-- they are the numbers of these values
pub record AreNumbers (values : List Val) (numbers : List ℤ) : Type 0 where
  pub size : length numbers ≡ length values
  pub each : (u : ℕ) → u < length values → number_at numbers u ≡ value_at values u

-- they are the numbers of the messages that these values make
pub record AreMessages (more : Option ℤ) (values : List Val) (numbers : List ℤ) : Type 0 where
  pub size : length numbers ≡ length values
  pub each : (u : ℕ) → u < length values → number_at numbers u ≡ message_with more (value_at values u)

-- those of the nodes in the list are of these values, and the others are as they were
pub record AreRenewed (values : List Val) (changes : List Change) (before after : List ℤ) : Type 0 where
  pub size : length after ≡ length before
  pub each : (u : ℕ) → u < length before → number_at after u ≡ (if is_changed u changes then value_at values u else number_at before u)

-- that of one node is of this value, and the others are as they were
pub record IsPut (node : ℕ) (value : Val) (before after : List ℤ) : Type 0 where
  pub size : length after ≡ length before
  pub here : number_at after node ≡ value
  pub others : (u : ℕ) → u ≢ node → number_at after u ≡ number_at before u

-- what arcs from these tails bring, where each brings the number of its tail
abbrev pub sent_from : List ℤ → List NodeNo → List Val
sent_from numbers tails = filter is_sent (map (λ (t : NodeNo). number_at numbers t.0) tails)

-- what such an arc brings, where it brings the number of its tail and the property added
abbrev pub number_over : List ℤ → Link → Val
number_over numbers l = added true (number_at numbers l.tail.0) (value_in l.step)

abbrev pub sent_over : List ℤ → List Link → List Val
sent_over numbers links = filter is_sent (map (number_over numbers) links)
