-- The items that nodes get, from what is in the loop: starts and arcs that stay, and the values of the nodes.
use Rattle.std.specs.Prelude.{ℕ, ◌<◌, ◌&&◌, nat_lt, Bool, List, [], ◌∷◌, ◌++◌, length, map, Option, Some, None, if◌then◌else◌}
use Rattle.std.specs.declared.cmp.Ordering.{Ordering}
use Rattle.graph_model.specs.declared.value.Val.{Val}
use Rattle.graph_model.specs.declared.value.Val.TheVariants.{Nil, Num}
use Rattle.graph_model.specs.declared.number.NodeNo.{NodeNo}
use Rattle.graph_model.specs.GraphData.{GraphData, node}
use Rattle.vertex_lang.specs.declared.arc.Arc.{Arc}
use Rattle.vertex_lang.specs.declared.program.Program.{Program}
use Rattle.vertex_lang.specs.Expressions.{start_of, sent_by}
use Rattle.vertex_lang.specs.Rounds.{nodes_of, value_at}
use Rattle.flow_core.specs.declared.side.Side.{Side}
use Rattle.flow_core.specs.declared.side.Side.TheVariants.{Left, Right}
use Rattle.flow_core.specs.Expanded.{expanded}
use Rattle.loop_theory.specs.declared.input.LoopInput.{LoopInput}
use Rattle.loop_theory.specs.declared.input.LoopInput.TheVariants.{Fixed, Moving}
use Rattle.diff_join.specs.Joins.{joined_sides}
use Rattle.work_theory.specs.Once.{once}
use Rattle.vertex_items.specs.declared.item.NodeItem.{NodeItem}
use Rattle.vertex_items.specs.declared.item.NodeItem.TheVariants.{Start, Own, Message}
use Rattle.vertex_items.specs.declared.input.FixedItem.{FixedItem}
use Rattle.vertex_items.specs.declared.input.FixedItem.TheVariants as fixed

-- what is in the loop
abbrev pub InLoop : Type 0
InLoop = LoopInput FixedItem (NodeNo × Val)

-- a node's own items: its start and its value
abbrev pub own_items : InLoop → List (NodeNo × NodeItem)
own_items (Fixed (fixed.Start v a)) = (v, Start a) ∷ []
own_items (Fixed (fixed.Arc a n)) = []
own_items (Moving x) = (x.0, Own x.1) ∷ []

-- arcs by their tails, with the degrees that are told, and the values of nodes
abbrev pub sides : InLoop → List (Side (NodeNo × (Arc × ℕ)) (NodeNo × Val))
sides (Fixed (fixed.Start v a)) = []
sides (Fixed (fixed.Arc a n)) = Left (a.tail, (a, n)) ∷ []
sides (Moving x) = Right (x.0, x.1) ∷ []

-- the numbers of an arc are the graph's, and so many arcs may leave its tail
abbrev pub is_sound : GraphData → Arc × ℕ → Bool
is_sound graph a = nat_lt a.0.tail.0 (length graph.ids) && (nat_lt a.0.edge.0 (length graph.ends) && nat_lt a.1 4_294_967_296)

-- none isn't sent
abbrev pub brought : NodeNo → Val → Option (NodeNo × NodeItem)
brought head Nil = None
brought head (Num z) = Some (head, Message (Num z))

-- what an arc brings to its head, where its tail has this value
abbrev pub sends : Program → GraphData → NodeNo → Arc × ℕ → Val → Option (NodeNo × NodeItem)
sends p graph tail a value = if is_sound graph a then brought a.0.head (sent_by p graph a.0.tail.0 value a.1 a.0.edge.0) else None

-- all items, by node
abbrev pub items : (NodeNo → NodeNo → Ordering) → Program → GraphData → List (InLoop × ℕ) → List ((NodeNo × NodeItem) × ℕ)
items ncmp p graph input = expanded own_items input ++ joined_sides ncmp (sends p graph) (expanded sides input)

-- ---- a view in the loop, under the values of a round

abbrev pub started : Program → GraphData → NodeNo → InLoop
started p graph v = Fixed (fixed.Start v (start_of p graph v.0))

abbrev pub kept : (Arc → ℕ) → Arc → InLoop
kept told a = Fixed (fixed.Arc a (told a))

abbrev pub valued : List Val → NodeNo → InLoop
valued values v = Moving (v, value_at values v.0)

-- each node with its start, each arc with the degree that is told, and each node with its value
abbrev pub view_in_loop : Program → GraphData → (Arc → ℕ) → List Arc → List Val → List (InLoop × ℕ)
view_in_loop p graph told arcs values = (once (started p graph) (map node (nodes_of graph)) ++ once (kept told) arcs) ++ once (valued values) (map node (nodes_of graph))
