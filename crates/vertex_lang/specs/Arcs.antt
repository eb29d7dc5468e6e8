-- The arcs of a view, and what they bring.
use Rattle.std.specs.Prelude.{ℕ, ℤ, pos, ◌+ℤ◌, ◌<◌, ◌==◌, Bool, true, false, List, [], ◌∷◌, length, map, filter, fold, flat_map, count_by, replicate}
use Rattle.graph_model.specs.declared.number.EdgeNo.{EdgeNo}
use Rattle.graph_model.specs.declared.value.Val.{Val}
use Rattle.graph_model.specs.declared.value.Val.TheVariants.{Nil, Num}
use Rattle.graph_model.specs.GraphData.{GraphData, ends_of}
use Rattle.vertex_lang.specs.declared.arc.Arc.{Arc}
use Rattle.vertex_lang.specs.declared.program.Along.{Along}
use Rattle.vertex_lang.specs.declared.program.Along.TheVariants as along
use Rattle.vertex_lang.specs.declared.program.Gather.{Gather}
use Rattle.vertex_lang.specs.declared.program.Gather.TheVariants as gather
use Rattle.vertex_lang.specs.Values.{lesser, greater, clamped}

-- from the source of an edge to its destination
abbrev pub forward : GraphData → EdgeNo → Arc
forward graph e = record { tail = (ends_of graph e.0).0; head = (ends_of graph e.0).1; edge = e; back = false }

-- from the destination of an edge to its source
abbrev pub backward : GraphData → EdgeNo → Arc
backward graph e = record { tail = (ends_of graph e.0).1; head = (ends_of graph e.0).0; edge = e; back = true }

abbrev pub arcs_of_edge : Along → GraphData → EdgeNo → List Arc
arcs_of_edge along.Out graph e = forward graph e ∷ []
arcs_of_edge along.In graph e = backward graph e ∷ []
arcs_of_edge along.Both graph e = forward graph e ∷ backward graph e ∷ []

-- the arcs of these edges, in their order
abbrev pub arcs_between : Along → GraphData → List EdgeNo → List Arc
arcs_between way graph edges = flat_map (arcs_of_edge way graph) edges

-- the arc is one of this graph
pub record IsArc (graph : GraphData) (a : Arc) : Type 0 where
  pub tail : a.tail.0 < length graph.ids
  pub head : a.head.0 < length graph.ids
  pub edge : a.edge.0 < length graph.ends

-- how many arcs leave a node
abbrev pub outdeg : List Arc → ℕ → ℕ
outdeg arcs u = count_by (λ a. a.tail.0 == u) arcs

-- ---- messages

abbrev pub is_sent : Val → Bool
is_sent Nil = false
is_sent (Num z) = true

-- the messages that a node gets, in order of the arcs, where each arc carries this; none isn't sent
abbrev pub messages : (Arc → Val) → List Arc → ℕ → List Val
messages carried arcs v = filter is_sent (map carried (filter (λ a. a.head.0 == v) arcs))

-- the number of a message, where none counts as 0
abbrev pub amount : Val → ℤ
amount Nil = pos 0
amount (Num z) = z

-- the exact sum of messages
abbrev pub total : List Val → ℤ
total ms = fold (λ sum m. sum +ℤ amount m) (pos 0) ms

-- one value of messages, none of which is none
abbrev pub gathered_of : Gather → List Val → Val
gathered_of gather.Min ms = fold lesser Nil ms
gathered_of gather.Max ms = fold greater Nil ms
gathered_of gather.Sum ms = Num (clamped (total ms))
gathered_of gather.Count ms = Num (pos (length ms))

-- each message as often as its count says
abbrev pub repeated : List (Val × ℕ) → List Val
repeated ms = flat_map (λ m. replicate m.1 m.0) ms
