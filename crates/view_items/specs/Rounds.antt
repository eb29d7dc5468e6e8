-- The loop of a vertex program as a function of collections, and what it makes up to a round.
use Rattle.std.specs.Prelude.{ℕ, nat_le, List, [], ◌∷◌, map, if◌then◌else◌}
use Rattle.std.specs.declared.cmp.Ordering.{Ordering}
use Rattle.lattice_time.specs.declared.round.Round.{Round}
use Rattle.reduce_theory.specs.ByKey.{reduce_apply}
use Rattle.graph_model.specs.declared.value.Val.{Val}
use Rattle.graph_model.specs.declared.number.NodeNo.{NodeNo}
use Rattle.graph_model.specs.GraphData.{GraphData, node}
use Rattle.vertex_lang.specs.declared.program.Program.{Program}
use Rattle.vertex_lang.specs.Expressions.{Answer}
use Rattle.vertex_lang.specs.Rounds.{nodes_of, value_at}
use Rattle.work_theory.specs.Once.{once}
use Rattle.vertex_items.specs.declared.item.NodeItem.{NodeItem}
use Rattle.vertex_items.specs.Given.{node_gives}
use Rattle.view_items.specs.Collections.{InLoop, items}

-- one round: the items of each node, and what it gives under them
abbrev pub round_of : (NodeNo → NodeNo → Ordering) → (NodeItem → NodeItem → Ordering) → Answer → Program → GraphData → List (InLoop × ℕ) → List ((NodeNo × Val) × ℕ)
round_of ncmp icmp answer p graph held = reduce_apply ncmp icmp (node_gives answer p graph) (items ncmp p graph held)

-- each node with its value, once
abbrev pub values_of : GraphData → List Val → List ((NodeNo × Val) × ℕ)
values_of graph values = once (λ v. (v, value_at values v.0)) (map node (nodes_of graph))

-- the records up to a round, without their rounds
abbrev pub through : {X : Type 0} → ℕ → List ((Round × X) × ℕ) → List (X × ℕ)
through r [] = []
through r (e ∷ es) = if nat_le e.0.0.0 r then (e.0.1, e.1) ∷ through r es else through r es
