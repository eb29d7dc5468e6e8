-- The function of a vertex program as a dataflow, and what one of this function makes.
use Rattle.std.specs.Prelude.{◌≡◌, ℕ, ◌≤◌, Bool, IsTrue, List}
use Rattle.std.specs.declared.cmp.Ordering.{Ordering}
use Rattle.lattice_time.specs.declared.round.Round.{Round}
use Rattle.weighted.specs.Alike.{Alike}
use Rattle.flow_core.specs.Runs.{Run, NoneBelow, fed_to, made_to}
use Rattle.reduce_theory.specs.ByKey.{reduce_apply}
use Rattle.loop_theory.specs.Loops.{loop_apply}
use Rattle.graph_model.specs.declared.value.Val.{Val}
use Rattle.graph_model.specs.declared.number.NodeNo.{NodeNo}
use Rattle.graph_model.specs.GraphData.{GraphData}
use Rattle.vertex_lang.specs.declared.arc.Arc.{Arc}
use Rattle.vertex_lang.specs.declared.program.Program.{Program}
use Rattle.vertex_lang.specs.Expressions.{Answer}
use Rattle.vertex_lang.specs.Rounds.{lone}
use Rattle.vertex_items.specs.declared.item.NodeItem.{NodeItem}
use Rattle.vertex_items.specs.declared.input.FlowInput.{FlowInput}
use Rattle.vertex_items.specs.declared.input.StartInput.{StartInput}
use Rattle.vertex_items.specs.Given.{node_gives}
use Rattle.view_items.specs.Collections.{InLoop, items}
use Rattle.view_items.specs.Prepared.{prepared, prepared_starts, view_fed}
use Rattle.view_items.specs.Rounds.{round_of, values_of, through}
use Rattle.flow_work.specs.Turns.{IsViewOf}

-- from nodes and arcs to the values of the nodes, round by round
abbrev pub flow_apply : (NodeNo → NodeNo → Ordering) → (Arc → Arc → Ordering) → (NodeItem → NodeItem → Ordering) → Answer → Program → GraphData → ℕ → List (FlowInput × ℕ) → List ((Round × (NodeNo × Val)) × ℕ)
flow_apply ncmp acmp icmp answer p graph rounds fed = loop_apply (round_of ncmp icmp answer p graph) rounds (prepared ncmp acmp p graph fed)

-- and from starts and arcs
abbrev pub start_apply : (NodeNo → NodeNo → Ordering) → (Arc → Arc → Ordering) → (NodeItem → NodeItem → Ordering) → Answer → Program → GraphData → ℕ → List (StartInput × ℕ) → List ((Round × (NodeNo × Val)) × ℕ)
start_apply ncmp acmp icmp answer p graph rounds fed = loop_apply (round_of ncmp icmp answer p graph) rounds (prepared_starts ncmp acmp p graph fed)

-- the functions of the parts of such a dataflow: what comes into its loop, the items of nodes, and what is made of these;
-- and the number of rounds
abbrev pub FlowParts : Type 0 → Type 0
FlowParts In =
    (List (In × ℕ) → List (InLoop × ℕ))
    × (((List (InLoop × ℕ) → List ((NodeNo × NodeItem) × ℕ)) × (List ((NodeNo × NodeItem) × ℕ) → List ((NodeNo × Val) × ℕ))) × ℕ)

abbrev pub flow_parts : (NodeNo → NodeNo → Ordering) → (Arc → Arc → Ordering) → (NodeItem → NodeItem → Ordering) → Answer → Program → GraphData → ℕ → FlowParts FlowInput
flow_parts ncmp acmp icmp answer p graph rounds =
    (prepared ncmp acmp p graph, ((items ncmp p graph, reduce_apply ncmp icmp (node_gives answer p graph)), rounds))

-- where what was fed up to a time at which nothing is due is a view, what was made up to that time and up to each round
-- is the values of the plain run after that round, once each
pub record MakesValues {T : Type 0} (leq : T → T → Bool) (answer : Answer) (p : Program) (graph : GraphData) (rounds : ℕ) (seal : T) (due : List T) (run : Run T FlowInput (Round × (NodeNo × Val))) : Type 0 where
  pub values : (t : T) → IsTrue (leq seal t) → NoneBelow leq t due
      → (arcs : List Arc) → IsViewOf graph arcs → Alike (fed_to leq run.steps t) (view_fed graph arcs)
      → (r : ℕ) → r ≤ rounds → Alike (through r (made_to leq run.steps t)) (values_of graph (lone answer p graph arcs r))
