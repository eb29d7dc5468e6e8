-- A round of a view, as the code keeps it: which edges are in the view, how many arcs leave each node, and the values.
use Rattle.std.specs.Prelude.{◌≡◌, ◌<◌, ◌^◌, ℕ, ℤ, Bool, true, List, length, map, filter, get_or, if◌then◌else◌}
use Rattle.graph_model.specs.declared.value.Val.{Val}
use Rattle.graph_model.specs.declared.value.Val.TheVariants.{Nil}
use Rattle.graph_model.specs.GraphData.{GraphData}
use Rattle.vertex_lang.specs.declared.arc.Arc.{Arc}
use Rattle.vertex_lang.specs.declared.program.Program.{Program}
use Rattle.vertex_lang.specs.Arcs.{is_sent}
use Rattle.vertex_lang.specs.Leaves.{IsChecked}
use Rattle.vertex_lang.specs.Expressions.{sent_by}
use Rattle.vertex_lang.specs.Rounds.{value_at}
use Rattle.message_forms.specs.Codes.{number_at}
use Rattle.message_forms.specs.Forms.{MayKeep}
use Rattle.arc_rows.specs.Views.{in_view}
use Rattle.round_messages.specs.declared.sending.Sender.{Sender}
use Rattle.round_messages.specs.declared.side.Side.{Side}

-- what an arc brings; none where it isn't in the view
abbrev pub brings : Program → GraphData → List Bool → List ℕ → List Val → Arc → Val
brings p graph edges degrees values a = if in_view edges a then sent_by p graph a.tail.0 (value_at values a.tail.0) (get_or degrees a.tail.0 0) a.edge.0 else Nil

-- what these arcs bring, in their order
abbrev pub all_brought : Program → GraphData → List Bool → List ℕ → List Val → List Arc → List Val
all_brought p graph edges degrees values row = filter is_sent (map (brings p graph edges degrees values) row)

-- there is a flag for each edge, and a number of arcs and a value for each node
pub record IsSized (graph : GraphData) (edges : List Bool) (degrees : List ℕ) (values : List Val) : Type 0 where
  pub edges_size : length edges ≡ length graph.ends
  pub degrees_size : length degrees ≡ length graph.ids
  pub degrees_small : (u : ℕ) → u < length graph.ids → get_or degrees u 0 < 2 ^ 32
  pub values_size : length values ≡ length graph.ids

-- where messages are kept, that of a node is the one along each arc that leaves it, as a number
abbrev pub AreSent : Bool → Program → GraphData → List ℕ → List Val → List ℤ → Type 0
AreSent alike p graph degrees values sent = alike ≡ true → (length sent ≡ length graph.ids) × ((u e : ℕ) → u < length graph.ids → number_at sent u ≡ sent_by p graph u (value_at values u) (get_or degrees u 0) e)

-- the first nodes, as many as there are numbers, send these
abbrev pub AreSentFirst : Program → GraphData → List ℕ → List Val → List ℤ → Type 0
AreSentFirst p graph degrees values sent = (u e : ℕ) → u < length sent → number_at sent u ≡ sent_by p graph u (value_at values u) (get_or degrees u 0) e

-- ---- of a side, as it's handed on

-- it is told in full
pub record IsSide (p : Program) (graph : GraphData) (s : Side) : Type 0 where
  pub sized : IsSized graph s.edges.now s.degrees.now s.values.now
  pub sent : AreSent s.alike p graph s.degrees.now s.values.now s.sent.now

-- what is sent along an arc, whether or not its edge is in the view
abbrev pub sends_in : Program → GraphData → Side → Arc → Val
sends_in p graph s a = sent_by p graph a.tail.0 (value_at s.values.now a.tail.0) (get_or s.degrees.now a.tail.0 0) a.edge.0

-- what an arc brings
abbrev pub brings_in : Program → GraphData → Side → Arc → Val
brings_in p graph s a = brings p graph s.edges.now s.degrees.now s.values.now a

-- and what these arcs bring, in their order
abbrev pub all_brought_in : Program → GraphData → Side → List Arc → List Val
all_brought_in p graph s row = all_brought p graph s.edges.now s.degrees.now s.values.now row

-- ---- of a sender

-- a program that was checked over a graph, and a small number of arcs of each node
pub record IsSender (s : Sender) : Type 0 where
  pub checked : IsChecked s.program.now s.graph.now
  pub degrees_size : length s.degrees.now ≡ length s.graph.now.ids
  pub small : (u : ℕ) → u < length s.graph.now.ids → get_or s.degrees.now u 0 < 2 ^ 32

-- messages may be kept
abbrev pub MayKeepFor : Bool → Sender → Type 0
MayKeepFor alike s = MayKeep alike s.program.now s.graph.now

-- where they are kept, these are those of the nodes with these values
abbrev pub AreSentFor : Bool → Sender → List Val → List ℤ → Type 0
AreSentFor alike s values sent = AreSent alike s.program.now s.graph.now s.degrees.now values sent

-- these are those of the first nodes
abbrev pub AreSentFirstFor : Sender → List Val → List ℤ → Type 0
AreSentFirstFor s values sent = AreSentFirst s.program.now s.graph.now s.degrees.now values sent
