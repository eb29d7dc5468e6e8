-- Expressions whose value is the same whatever the properties of the edge are, or however many arcs leave the node.
use Rattle.std.specs.Prelude.{◌≡◌, ◌<◌, ℕ, List, length}
use Rattle.graph_model.specs.declared.value.Val.{Val}
use Rattle.graph_model.specs.GraphData.{GraphData, id_of}
use Rattle.graph_model.specs.declared.value.Val.TheVariants.{Nil}
use Rattle.vertex_lang.specs.declared.program.Expr.{Expr}
use Rattle.vertex_lang.specs.declared.program.Program.{Program}
use Rattle.vertex_lang.specs.declared.arc.Arc.{Arc}
use Rattle.vertex_lang.specs.Expressions.{Environment, value_of, sent_by, no_property}
use Rattle.vertex_lang.specs.Arcs.{outdeg}
use Rattle.vertex_lang.specs.Rounds.{value_at}

-- the same words with other properties of the edge
abbrev pub on_edge : Environment → (ℕ → Val) → Environment
on_edge words properties = record { id = words.id; start = words.start; value = words.value; gathered = words.gathered; count = words.count; outdeg = words.outdeg; edge_property = properties; node_property = words.node_property }

abbrev pub IgnoresEdge : Expr → Type 0
IgnoresEdge e = (words : Environment) (f g : ℕ → Val) → value_of e (on_edge words f) ≡ value_of e (on_edge words g)

-- the same words with another number of arcs that leave the node
abbrev pub with_outdeg : Environment → ℕ → Environment
with_outdeg words n = record { id = words.id; start = words.start; value = words.value; gathered = words.gathered; count = words.count; outdeg = n; edge_property = words.edge_property; node_property = words.node_property }

abbrev pub IgnoresOutdeg : Expr → Type 0
IgnoresOutdeg e = (words : Environment) (m n : ℕ) → value_of e (with_outdeg words m) ≡ value_of e (with_outdeg words n)

-- the message of a node with this value and so many outgoing arcs, where no edge has a property
abbrev pub sent_on_all : Program → GraphData → ℕ → Val → ℕ → Val
sent_on_all p graph tail value outdeg = value_of p.send (record { id = id_of graph tail; start = Nil; value = value; gathered = Nil; count = 0; outdeg = outdeg; edge_property = no_property; node_property = no_property })

-- these are the messages of the nodes along each arc
abbrev pub IsSent : Program → GraphData → List Arc → List Val → List Val → Type 0
IsSent p graph arcs values sent = (u edge : ℕ) → u < length graph.ids → value_at sent u ≡ sent_by p graph u (value_at values u) (outdeg arcs u) edge
