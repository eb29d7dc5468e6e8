-- What comes into the loop, from a collection of nodes and arcs, or of starts and arcs.
use Rattle.std.specs.Prelude.{ℕ, ◌%◌, ◌^◌, ◌&&◌, nat_lt, Bool, List, [], ◌∷◌, ◌++◌, length, map, sum_by, if◌then◌else◌}
use Rattle.std.specs.declared.cmp.Ordering.{Ordering}
use Rattle.graph_model.specs.declared.value.Val.{Val}
use Rattle.graph_model.specs.declared.number.NodeNo.{NodeNo}
use Rattle.graph_model.specs.GraphData.{GraphData, node}
use Rattle.vertex_lang.specs.declared.arc.Arc.{Arc}
use Rattle.vertex_lang.specs.declared.program.Program.{Program}
use Rattle.vertex_lang.specs.Arcs.{outdeg}
use Rattle.vertex_lang.specs.Expressions.{start_of}
use Rattle.vertex_lang.specs.Named.{names_outdeg}
use Rattle.vertex_lang.specs.Rounds.{nodes_of}
use Rattle.weighted.specs.WordLaws.{mapped}
use Rattle.flow_core.specs.Expanded.{expanded}
use Rattle.reduce_theory.specs.ByKey.{reduce_apply}
use Rattle.loop_theory.specs.declared.input.LoopInput.TheVariants.{Fixed, Moving}
use Rattle.work_theory.specs.Once.{once}
use Rattle.vertex_items.specs.declared.input.FlowInput.{FlowInput}
use Rattle.vertex_items.specs.declared.input.FlowInput.TheVariants as flow
use Rattle.vertex_items.specs.declared.input.StartInput.{StartInput}
use Rattle.vertex_items.specs.declared.input.StartInput.TheVariants as given
use Rattle.vertex_items.specs.declared.input.FixedItem.TheVariants as fixed
use Rattle.view_items.specs.Collections.{InLoop}

-- the graph has the numbers of an arc
abbrev pub has_arc : GraphData → Arc → Bool
has_arc graph a = nat_lt a.tail.0 (length graph.ids) && (nat_lt a.head.0 (length graph.ids) && nat_lt a.edge.0 (length graph.ends))

-- a node of the graph begins with its start, which stays beside it
abbrev pub begun : GraphData → NodeNo → Val → List InLoop
begun graph v start = if nat_lt v.0 (length graph.ids) then Fixed (fixed.Start v start) ∷ Moving (v, start) ∷ [] else []

-- an arc of the graph, by its tail
abbrev pub tailed : GraphData → Arc → List (NodeNo × Arc)
tailed graph a = if has_arc graph a then (a.tail, a) ∷ [] else []

-- the arcs of a tail, each with their number, or with 0 where no message names it; none where they are 2^32 or more
abbrev pub degrees : Bool → NodeNo → List (Arc × ℕ) → List ((Arc × ℕ) × ℕ)
degrees is_named tail arcs =
    if nat_lt (sum_by (λ a. a.1) arcs % 2 ^ 64) 4_294_967_296 then mapped (λ a. (a, if is_named then sum_by (λ a. a.1) arcs % 2 ^ 64 else 0)) arcs else []

abbrev pub arc_in_loop : NodeNo × (Arc × ℕ) → InLoop
arc_in_loop a = Fixed (fixed.Arc a.1.0 a.1.1)

-- all arcs of the graph, each with the degree that is told
abbrev pub arcs_in_loop : (NodeNo → NodeNo → Ordering) → (Arc → Arc → Ordering) → Program → List ((NodeNo × Arc) × ℕ) → List (InLoop × ℕ)
arcs_in_loop ncmp acmp p arcs = mapped arc_in_loop (reduce_apply ncmp acmp (degrees (names_outdeg p.send)) arcs)

-- ---- of nodes and arcs

abbrev pub node_begins : Program → GraphData → FlowInput → List InLoop
node_begins p graph (flow.Node v) = begun graph v (start_of p graph v.0)
node_begins p graph (flow.Arc a) = []

abbrev pub flow_tails : GraphData → FlowInput → List (NodeNo × Arc)
flow_tails graph (flow.Node v) = []
flow_tails graph (flow.Arc a) = tailed graph a

abbrev pub prepared : (NodeNo → NodeNo → Ordering) → (Arc → Arc → Ordering) → Program → GraphData → List (FlowInput × ℕ) → List (InLoop × ℕ)
prepared ncmp acmp p graph fed = expanded (node_begins p graph) fed ++ arcs_in_loop ncmp acmp p (expanded (flow_tails graph) fed)

-- each node once, and the arcs of a view
abbrev pub view_fed : GraphData → List Arc → List (FlowInput × ℕ)
view_fed graph arcs = once flow.Node (map node (nodes_of graph)) ++ once flow.Arc arcs

-- the degree that is told of an arc's tail
abbrev pub told_of : Program → List Arc → Arc → ℕ
told_of p arcs a = if names_outdeg p.send then outdeg arcs a.tail.0 else 0

-- ---- of starts and arcs

abbrev pub start_begins : GraphData → StartInput → List InLoop
start_begins graph (given.Start v start) = begun graph v start
start_begins graph (given.Arc a) = []

abbrev pub start_tails : GraphData → StartInput → List (NodeNo × Arc)
start_tails graph (given.Start v start) = []
start_tails graph (given.Arc a) = tailed graph a

abbrev pub prepared_starts : (NodeNo → NodeNo → Ordering) → (Arc → Arc → Ordering) → Program → GraphData → List (StartInput × ℕ) → List (InLoop × ℕ)
prepared_starts ncmp acmp p graph fed = expanded (start_begins graph) fed ++ arcs_in_loop ncmp acmp p (expanded (start_tails graph) fed)
