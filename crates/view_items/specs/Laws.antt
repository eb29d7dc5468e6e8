-- The laws, each as one statement.
use Rattle.std.specs.Prelude.{◌≡◌, ℕ, ◌<◌, ◌≤◌, ◌^◌, List, [], length, All}
use Rattle.std.specs.declared.cmp.Ordering.{Ordering}
use Rattle.std.specs.declared.cmp.Ordering.TheVariants.{Equal}
use Rattle.std.specs.Cmp.{IsTotalOrder}
use Rattle.weighted.specs.Alike.{Alike}
use Rattle.reduce_theory.specs.Evaluated.{key_part}
use Rattle.graph_model.specs.declared.number.NodeNo.{NodeNo}
use Rattle.graph_model.specs.GraphData.{GraphData}
use Rattle.vertex_lang.specs.declared.arc.Arc.{Arc}
use Rattle.vertex_lang.specs.declared.program.Program.{Program}
use Rattle.vertex_lang.specs.Arcs.{IsArc}
use Rattle.vertex_lang.specs.Expressions.{Answer}
use Rattle.vertex_lang.specs.Rounds.{lone}
use Rattle.lone_work.specs.Inputs.{input}
use Rattle.work_theory.specs.Once.{once}
use Rattle.vertex_items.specs.declared.input.FlowInput.{FlowInput}
use Rattle.loop_theory.specs.Loops.{loop_apply}
use Rattle.vertex_items.specs.declared.item.NodeItem.{NodeItem}
use Rattle.vertex_items.specs.Names.{named}
use Rattle.vertex_items.specs.Laws.{IsItemOrder}
use Rattle.view_items.specs.Collections.{InLoop, items, view_in_loop}
use Rattle.view_items.specs.Prepared.{told_of, view_fed, prepared}
use Rattle.view_items.specs.Rounds.{round_of, values_of, through}

-- an order of records: total, and it tells them apart
pub record IsOrder {A : Type 0} (cmp : A → A → Ordering) : Type 0 where
  pub total : IsTotalOrder cmp
  pub same : (x y : A) → cmp x y ≡ Equal → x ≡ y

-- where what is in the loop is a view, with the values of its nodes in a round, the items of a node are its input in
-- that round, each once, and another number has none
abbrev pub ItemsAreInputs : Type 0
ItemsAreInputs = (ncmp : NodeNo → NodeNo → Ordering) → IsOrder ncmp
    → (answer : Answer) (p : Program) (graph : GraphData) (arcs : List Arc) (r : ℕ) → All (IsArc graph) arcs → length arcs < 2 ^ 32
    → (held : List (InLoop × ℕ)) → Alike held (view_in_loop p graph (told_of p arcs) arcs (lone answer p graph arcs r))
    → (v : NodeNo) → (v.0 < length graph.ids → Alike (key_part ncmp v (items ncmp p graph held)) (once named (input answer p graph arcs v.0 r)))
    × (length graph.ids ≤ v.0 → Alike (key_part ncmp v (items ncmp p graph held)) [])

-- what comes into the loop from each node, once, and the arcs of a view is that view, with the starts of its nodes
abbrev pub ViewIsPrepared : Type 0
ViewIsPrepared = (ncmp : NodeNo → NodeNo → Ordering) → IsOrder ncmp → (acmp : Arc → Arc → Ordering) → IsOrder acmp
    → (answer : Answer) (p : Program) (graph : GraphData) (arcs : List Arc) → All (IsArc graph) arcs → length arcs < 2 ^ 32
    → (fed : List (FlowInput × ℕ)) → Alike fed (view_fed graph arcs)
    → Alike (prepared ncmp acmp p graph fed) (view_in_loop p graph (told_of p arcs) arcs (lone answer p graph arcs 0))

-- so the loop of a program of so many rounds makes, up to each round, the values of the plain run after it, once each
abbrev pub LoopIsLone : Type 0
LoopIsLone = (ncmp : NodeNo → NodeNo → Ordering) → IsOrder ncmp → (acmp : Arc → Arc → Ordering) → IsOrder acmp → (icmp : NodeItem → NodeItem → Ordering) → IsItemOrder icmp
    → (answer : Answer) (p : Program) (graph : GraphData) (arcs : List Arc) → All (IsArc graph) arcs → length arcs < 2 ^ 32
    → (rounds r : ℕ) → r ≤ rounds → (fed : List (FlowInput × ℕ)) → Alike fed (view_fed graph arcs)
    → Alike (through r (loop_apply (round_of ncmp icmp answer p graph) rounds (prepared ncmp acmp p graph fed))) (values_of graph (lone answer p graph arcs r))
