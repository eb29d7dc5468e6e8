-- What the built-in programs mean, in terms of walks. Nothing here knows of rounds, messages or programs.
use Rattle.std.specs.Prelude.{◌≡◌, ℕ, ℤ, pos, ◌≤◌, ◌<◌, ◌^◌, List, length, sum_by, All}
use Rattle.graph_model.specs.declared.number.EdgeNo.{EdgeNo}
use Rattle.graph_model.specs.declared.value.Val.{Val}
use Rattle.graph_model.specs.declared.value.Val.TheVariants.{Num}
use Rattle.graph_model.specs.GraphData.{GraphData, Cell, id_of, edge_cell_of}
use Rattle.walk_theory.specs.Walks.{IsWalk, IsLinked}
use Rattle.vertex_lang.specs.declared.arc.Arc.{Arc}
use Rattle.vertex_lang.specs.declared.lone.Outcome.{Outcome}
use Rattle.vertex_lang.specs.declared.lone.Outcome.TheVariants as outcome
use Rattle.vertex_lang.specs.declared.lone.Rounds.{Rounds}
use Rattle.vertex_lang.specs.declared.lone.Rounds.TheVariants as rounds
use Rattle.vertex_lang.specs.declared.program.Along.TheVariants as along
use Rattle.vertex_lang.specs.Arcs.{arcs_between}
use Rattle.vertex_lang.specs.Rounds.{value_at}

-- the least of the numbers of which something holds; none where it holds of no number
pub record IsLeastOf (holds : ℕ → Type 0) (least : Val) : Type 0 where
  pub reached : (z : ℤ) → least ≡ Num z → (n : ℕ) × holds n × (z ≡ pos n)
  pub bounds : (n : ℕ) → holds n → (m : ℕ) × (least ≡ Num (pos m)) × (m ≤ n)

-- ---- walks in a graph

-- the tail of an arc, and its head
abbrev pub ends : Arc → ℕ × ℕ
ends a = (a.tail.0, a.head.0)

-- a walk over these arcs leads from the node with this id to a node, and this is its measure
pub record HasWalk (graph : GraphData) (arcs : List Arc) (measure : List Arc → ℕ) (source : ℤ) (to n : ℕ) : Type 0 where
  pub from : ℕ
  pub within : from < length graph.ids
  pub is_source : pos (id_of graph from) ≡ source
  pub walk : List Arc
  pub leads : IsWalk ends arcs from walk to
  pub measured : measure walk ≡ n

-- the number of a cell that holds one, where it isn't negative
abbrev pub cell_weight : Cell → ℕ
cell_weight (Cell.int (pos n)) = n
cell_weight _ = 0

-- the weight of an arc is the number of its edge in this column
abbrev pub weight_in : GraphData → ℕ → Arc → ℕ
weight_in graph column a = cell_weight (edge_cell_of graph a.edge.0 column)

-- the weight of a walk is the sum of the weights of its arcs
abbrev pub walk_weight : GraphData → ℕ → List Arc → ℕ
walk_weight graph column walk = sum_by (weight_in graph column) walk

-- on each of these arcs the cell of this column is present and not negative, and all of them together are below 2^62
pub record HasWeights (graph : GraphData) (column : ℕ) (arcs : List Arc) : Type 0 where
  pub present : All (λ a. (n : ℕ) × (edge_cell_of graph a.edge.0 column ≡ Cell.int (pos n))) arcs
  pub small : sum_by (weight_in graph column) arcs < 2 ^ 62

-- two nodes are in one component where a walk joins them, over the arcs of the edges in both directions
abbrev pub InOneComponent : List Arc → ℕ → ℕ → Type 0
InOneComponent arcs u v = IsLinked ends arcs u v

-- these are the arcs of some edges, each in both directions
pub record RunBothWays (graph : GraphData) (arcs : List Arc) : Type 0 where
  pub edges : List EdgeNo
  pub same : arcs ≡ arcs_between along.Both graph edges

-- a node in the component of this node has this id
pub record HasIdInComponent (graph : GraphData) (arcs : List Arc) (of id : ℕ) : Type 0 where
  pub member : ℕ
  pub within : member < length graph.ids
  pub joined : InOneComponent arcs member of
  pub named : id_of graph member ≡ id

-- ---- the values of all nodes, by their numbers

-- the least number of arcs of a walk from the node with this id
abbrev pub AreHops : GraphData → List Arc → ℤ → List Val → Type 0
AreHops graph arcs source values = (v : ℕ) → v < length graph.ids → IsLeastOf (HasWalk graph arcs length source v) (value_at values v)

-- the least weight of a walk from the node with this id
abbrev pub AreDistances : GraphData → List Arc → ℤ → ℕ → List Val → Type 0
AreDistances graph arcs source column values = (v : ℕ) → v < length graph.ids → IsLeastOf (HasWalk graph arcs (walk_weight graph column) source v) (value_at values v)

-- the least id in the component
abbrev pub AreComponents : GraphData → List Arc → List Val → Type 0
AreComponents graph arcs values = (v : ℕ) → v < length graph.ids → IsLeastOf (HasIdInComponent graph arcs v) (value_at values v)

-- ---- how a run ends

abbrev pub IsSettled : Outcome → Type 0
IsSettled (outcome.Settled r) = Unit {0}
IsSettled (outcome.After r) = ⊥
IsSettled (outcome.Phases r) = ⊥
IsSettled outcome.Unsettled = ⊥

-- the run goes on until nothing changes, for as many rounds as there are nodes or more
abbrev pub HasRoundsForAll : GraphData → Rounds → Type 0
HasRoundsForAll graph (rounds.Within n) = length graph.ids ≤ n
HasRoundsForAll graph (rounds.For n) = ⊥
