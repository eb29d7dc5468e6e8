-- The run of the reduce inside a vertex program as a dataflow, in the words of its views.
use Rattle.std.specs.Prelude.{◌≡◌, ℕ, ◌+◌, ◌*◌, ◌<◌, ◌≤◌, Bool, IsTrue, List, [], length, take, drop}
use Rattle.std.specs.declared.cmp.Ordering.{Ordering}
use Rattle.lattice_time.specs.declared.pair.Pair.{Pair}
use Rattle.lattice_time.specs.declared.round.Round.{Round}
use Rattle.weighted.specs.Alike.{Alike}
use Rattle.flow_core.specs.Runs.{Run, NoneBelow, fed_to, times_of, charges_of}
use Rattle.reduce_theory.specs.Evaluated.{key_part, EachCharged, charged}
use Rattle.loop_theory.specs.Loops.{pair_leq, pair_lub, pair_of}
use Rattle.inner_theory.specs.Inside.{AreSums, LoopInside, all_rounds}
use Rattle.graph_model.specs.declared.value.Val.{Val}
use Rattle.graph_model.specs.declared.number.NodeNo.{NodeNo}
use Rattle.graph_model.specs.GraphData.{GraphData}
use Rattle.vertex_lang.specs.declared.arc.Arc.{Arc}
use Rattle.vertex_lang.specs.declared.program.Program.{Program}
use Rattle.vertex_lang.specs.Expressions.{Answer}
use Rattle.lone_work.specs.Inputs.{input}
use Rattle.work_theory.specs.Once.{once}
use Rattle.vertex_items.specs.declared.item.NodeItem.{NodeItem}
use Rattle.vertex_items.specs.declared.input.FlowInput.{FlowInput}
use Rattle.vertex_items.specs.Names.{named}
use Rattle.vertex_items.specs.Laws.{IsItemOrder}
use Rattle.view_items.specs.Collections.{items}
use Rattle.view_items.specs.Prepared.{prepared, view_fed}
use Rattle.view_items.specs.Rounds.{round_of}
use Rattle.view_items.specs.Laws.{IsOrder}
use Rattle.flow_work.specs.Turns.{IsViewOf}

-- one step a round of each step of the whole; a seal of the whole seals it at round 0; where what the whole was fed up
-- to a time at which nothing is due is a view, each node was fed its input in each round of the view's plain run, once,
-- and no other number was fed anything; each step of the whole is charged what its rounds are, together, and each of
-- these since the seal the nodes that are evaluated at it, judged over the run up to it; these are all that is charged
pub record InnerRun {T : Type 0} (leq : T → T → Bool) (lub : T → T → T) (pcmp : Pair T Round → Pair T Round → Ordering) (ncmp : NodeNo → NodeNo → Ordering) (icmp : NodeItem → NodeItem → Ordering) (answer : Answer) (p : Program) (graph : GraphData) (rounds : ℕ) (seal : T) (due : List T) (charge : ℕ) (run : Run T FlowInput (Round × (NodeNo × Val))) : Type 0 where
  pub inner : Run (Pair T Round) (NodeNo × NodeItem) (NodeNo × Val)
  pub times : times_of inner.steps ≡ all_rounds rounds (times_of run.steps)
  pub before : inner.before ≡ run.before * rounds
  pub base : inner.base ≡ run.base
  pub inputs : (t : T) → IsTrue (leq seal t) → NoneBelow leq t due
      → (arcs : List Arc) → IsViewOf graph arcs → Alike (fed_to leq run.steps t) (view_fed graph arcs)
      → (r : ℕ) → r < rounds → (v : NodeNo)
      → (v.0 < length graph.ids → Alike (key_part ncmp v (fed_to (pair_leq leq) inner.steps (pair_of t r))) (once named (input answer p graph arcs v.0 r)))
      × (length graph.ids ≤ v.0 → Alike (key_part ncmp v (fed_to (pair_leq leq) inner.steps (pair_of t r))) [])
  pub charges : AreSums rounds (charges_of run.steps) (charges_of inner.steps)
  pub each : EachCharged (pair_leq leq) (pair_lub lub) pcmp ncmp icmp (pair_of seal 0) (take inner.before inner.steps) [] (drop inner.before inner.steps)
  pub charged_is : charge ≡ inner.base + charged (pair_leq leq) (pair_lub lub) pcmp ncmp icmp (pair_of seal 0) (take inner.before inner.steps) [] (drop inner.before inner.steps)

-- what stands inside such a loop is such a run
abbrev pub InnerIsFedInputs : (T : Type 0) → (T → T → Bool) → (T → T → T) → Type 0
InnerIsFedInputs T leq lub = (pcmp : Pair T Round → Pair T Round → Ordering) → (ncmp : NodeNo → NodeNo → Ordering) → IsOrder ncmp → (acmp : Arc → Arc → Ordering) → IsOrder acmp → (icmp : NodeItem → NodeItem → Ordering) → IsItemOrder icmp
    → (answer : Answer) (p : Program) (graph : GraphData) (rounds : ℕ) (seal : T) (due : List T) (charge : ℕ) (run : Run T FlowInput (Round × (NodeNo × Val)))
    → LoopInside leq lub pcmp ncmp icmp (prepared ncmp acmp p graph) (items ncmp p graph) (round_of ncmp icmp answer p graph) rounds seal due charge run
    → InnerRun leq lub pcmp ncmp icmp answer p graph rounds seal due charge run
