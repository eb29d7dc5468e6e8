-- A round of a view, and another one beside it.
use Rattle.std.specs.Prelude.{◌≡◌, ◌<◌, not, ℕ, Bool, List, length, All, Contains}
use Rattle.graph_model.specs.declared.number.NodeNo.{NodeNo}
use Rattle.graph_model.specs.declared.value.Val.{Val}
use Rattle.vertex_lang.specs.declared.arc.Arc.{Arc}
use Rattle.vertex_lang.specs.Expressions.{Answer}
use Rattle.vertex_lang.specs.Leaves.{IsChecked}
use Rattle.vertex_lang.specs.Lone.{same_value}
use Rattle.multisets.specs.Multisets.{are_one}
use Rattle.lone_work.specs.Inputs.{got_values}
use Rattle.arc_rows.specs.RowLists.{AreRows}
use Rattle.arc_rows.specs.Views.{arcs_in, row_of, IsTurned}
use Rattle.round_messages.specs.Sides.{all_brought_in, brings_in, AreSent, IsSide, IsSized}
use Rattle.round_inputs.specs.declared.rounds.TwoRounds.{TwoRounds}
use Rattle.round_inputs.specs.declared.rounds.ViewRound.{ViewRound}
use Rattle.round_inputs.specs.declared.source.MessageSource.{MessageSource}
use Rattle.round_inputs.specs.Inputs.{IsRound}
use Rattle.round_inputs.specs.Links.{sent_by_tail, sent_by_tails}
use Rattle.round_inputs.specs.Movers.{AreStill, InMovers}
use Rattle.round_inputs.specs.Sources.{IsSource}

-- it is that of the plain run
abbrev pub IsRoundOf : Answer → ViewRound → Type 0
IsRoundOf answer v = IsRound answer v.program.now v.graph.now v.rows.now.by_head v.side.edges.now v.side.degrees.now v.side.values.now v.number

-- and told in full
pub record IsViewRound (answer : Answer) (v : ViewRound) : Type 0 where
  pub checked : IsChecked v.program.now v.graph.now
  pub rows : AreRows v.graph.now v.rows.now
  pub stands : IsRoundOf answer v
  pub sent : AreSent v.side.alike v.program.now v.graph.now v.side.degrees.now v.side.values.now v.side.sent.now

-- the arcs that come to a node
abbrev pub row_in : ViewRound → ℕ → List Arc
row_in v node = row_of v.rows.now.by_head node

-- what a node gets in it
abbrev pub got_in : Answer → ViewRound → ℕ → List Val
got_in answer v node = got_values answer v.program.now v.graph.now (arcs_in v.rows.now.by_head v.side.edges.now) node v.number

-- what is kept is of its arcs and its values
abbrev pub IsSourceOf : Answer → ViewRound → MessageSource → Type 0
IsSourceOf answer v source = IsSource answer v.program.now v.graph.now v.rows.now.by_head v.side.edges.now v.number source

-- both rounds are told, and nodes that aren't told to send something else send the same
pub record AreTwoRounds (t : TwoRounds) : Type 0 where
  pub checked : IsChecked t.left.now.program.now t.left.now.graph.now
  pub left : IsSide t.left.now.program.now t.left.now.graph.now t.left.now.side
  pub right : IsSized t.left.now.graph.now t.right.now.edges.now t.right.now.degrees.now t.right.now.values.now
  pub movers : (u : ℕ) → u < length t.left.now.graph.now.ids → InMovers t.movers u
  pub still : AreStill t.left.now.program.now t.left.now.graph.now t.movers t.left.now.side.degrees.now t.left.now.side.values.now t.right.now.degrees.now t.right.now.values.now

-- messages that are kept are those of the other round
abbrev pub AreSentRight : TwoRounds → Type 0
AreSentRight t = AreSent t.right.now.alike t.left.now.program.now t.left.now.graph.now t.right.now.degrees.now t.right.now.values.now t.right.now.sent.now

-- the edge of an arc is in one of the two views alone
abbrev pub IsTurnedIn : TwoRounds → Arc → Type 0
IsTurnedIn t a = IsTurned t.left.now.side.edges.now t.right.now.edges.now a

-- and then the arc is told
abbrev pub TellsTurned : TwoRounds → Arc → Type 0
TellsTurned t a = IsTurnedIn t a → Contains t.turned.now a

-- what an arc brings in the one, and in the other
abbrev pub left_brings : TwoRounds → Arc → Val
left_brings t a = brings_in t.left.now.program.now t.left.now.graph.now t.left.now.side a

abbrev pub right_brings : TwoRounds → Arc → Val
right_brings t a = brings_in t.left.now.program.now t.left.now.graph.now t.right.now a

-- what these arcs bring, in their order
abbrev pub left_brought : TwoRounds → List Arc → List Val
left_brought t row = all_brought_in t.left.now.program.now t.left.now.graph.now t.left.now.side row

abbrev pub right_brought : TwoRounds → List Arc → List Val
right_brought t row = all_brought_in t.left.now.program.now t.left.now.graph.now t.right.now row

-- these arcs bring different messages in the two, as multisets
abbrev pub bring_other : TwoRounds → List Arc → Bool
bring_other t row = not (are_one same_value (left_brought t row) (right_brought t row))

-- what a node sends, and what these send in their order, where messages are the same along all edges
abbrev pub left_sends : TwoRounds → NodeNo → Val
left_sends t u = sent_by_tail t.left.now.program.now t.left.now.graph.now t.left.now.side.degrees.now t.left.now.side.values.now u

abbrev pub right_sends : TwoRounds → NodeNo → Val
right_sends t u = sent_by_tail t.left.now.program.now t.left.now.graph.now t.right.now.degrees.now t.right.now.values.now u

abbrev pub left_sent : TwoRounds → List NodeNo → List Val
left_sent t tails = sent_by_tails t.left.now.program.now t.left.now.graph.now t.left.now.side.degrees.now t.left.now.side.values.now tails

abbrev pub right_sent : TwoRounds → List NodeNo → List Val
right_sent t tails = sent_by_tails t.left.now.program.now t.left.now.graph.now t.right.now.degrees.now t.right.now.values.now tails

abbrev pub send_other : TwoRounds → List NodeNo → Bool
send_other t tails = not (are_one same_value (left_sent t tails) (right_sent t tails))
