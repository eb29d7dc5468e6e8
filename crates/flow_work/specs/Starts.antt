-- What a vertex program as a dataflow from given starts makes, and the run of the reduce inside it.
use Rattle.std.specs.Prelude.{◌≡◌, ℕ, ◌+◌, ◌*◌, ◌<◌, ◌≤◌, Bool, IsTrue, List, [], ◌∷◌, ◌++◌, length, map, take, drop}
use Rattle.std.specs.declared.cmp.Ordering.{Ordering}
use Rattle.lattice_time.specs.declared.pair.Pair.{Pair}
use Rattle.lattice_time.specs.declared.round.Round.{Round}
use Rattle.weighted.specs.Alike.{Alike}
use Rattle.flow_core.specs.Runs.{Run, NoneBelow, fed_to, made_to, times_of, charges_of}
use Rattle.reduce_theory.specs.ByKey.{reduce_apply}
use Rattle.reduce_theory.specs.Evaluated.{key_part, EachCharged, charged}
use Rattle.loop_theory.specs.Loops.{after_rounds, pair_leq, pair_lub, pair_of}
use Rattle.inner_theory.specs.Inside.{AreSums, LoopInside, all_rounds}
use Rattle.graph_model.specs.declared.value.Val.{Val}
use Rattle.graph_model.specs.declared.number.NodeNo.{NodeNo}
use Rattle.graph_model.specs.GraphData.{GraphData, node}
use Rattle.vertex_lang.specs.declared.arc.Arc.{Arc}
use Rattle.vertex_lang.specs.declared.program.Program.{Program}
use Rattle.vertex_lang.specs.Expressions.{Answer}
use Rattle.vertex_lang.specs.Phases.{rounds_from}
use Rattle.vertex_lang.specs.Rounds.{nodes_of, value_at, received}
use Rattle.lone_work.specs.Items.{Item}
use Rattle.work_theory.specs.Once.{once}
use Rattle.vertex_items.specs.declared.item.NodeItem.{NodeItem}
use Rattle.vertex_items.specs.declared.input.StartInput.{StartInput}
use Rattle.vertex_items.specs.declared.input.StartInput.TheVariants as given
use Rattle.vertex_items.specs.Given.{node_gives}
use Rattle.vertex_items.specs.Laws.{IsItemOrder}
use Rattle.vertex_items.specs.Names.{named}
use Rattle.view_items.specs.Collections.{items}
use Rattle.view_items.specs.Laws.{IsOrder}
use Rattle.view_items.specs.Prepared.{prepared_starts}
use Rattle.view_items.specs.Rounds.{round_of, values_of, through}
use Rattle.flow_work.specs.Turns.{IsViewOf}
use Rattle.flow_work.specs.Values.{FlowParts, start_apply}

-- each node once, with the value with which it starts, and the arcs of a view
abbrev pub starts_fed : GraphData → List Val → List Arc → List (StartInput × ℕ)
starts_fed graph starts arcs = once (λ v. given.Start v (value_at starts v.0)) (map node (nodes_of graph)) ++ once given.Arc arcs

-- the functions of the parts of such a dataflow
abbrev pub start_parts : (NodeNo → NodeNo → Ordering) → (Arc → Arc → Ordering) → (NodeItem → NodeItem → Ordering) → Answer → Program → GraphData → ℕ → FlowParts StartInput
start_parts ncmp acmp icmp answer p graph rounds =
    (prepared_starts ncmp acmp p graph, ((items ncmp p graph, reduce_apply ncmp icmp (node_gives answer p graph)), rounds))

-- where what was fed up to a time at which nothing is due is one start a node and a view, what was made up to that time and up to
-- each round is the values after so many rounds from these starts, once each
pub record MakesStarts {T : Type 0} (leq : T → T → Bool) (answer : Answer) (p : Program) (graph : GraphData) (rounds : ℕ) (seal : T) (due : List T) (run : Run T StartInput (Round × (NodeNo × Val))) : Type 0 where
  pub values : (t : T) → IsTrue (leq seal t) → NoneBelow leq t due
      → (starts : List Val) → length starts ≡ length graph.ids → (arcs : List Arc) → IsViewOf graph arcs → Alike (fed_to leq run.steps t) (starts_fed graph starts arcs)
      → (r : ℕ) → r ≤ rounds → Alike (through r (made_to leq run.steps t)) (values_of graph (rounds_from answer p graph starts arcs r))

-- what is in the loop of such a dataflow after so many rounds
abbrev pub RoundsAreFromStarts : Type 0
RoundsAreFromStarts = (ncmp : NodeNo → NodeNo → Ordering) → IsOrder ncmp → (acmp : Arc → Arc → Ordering) → IsOrder acmp → (icmp : NodeItem → NodeItem → Ordering) → IsItemOrder icmp
    → (answer : Answer) (p : Program) (graph : GraphData) (starts : List Val) → length starts ≡ length graph.ids → (arcs : List Arc) → IsViewOf graph arcs
    → (r : ℕ) (fed : List (StartInput × ℕ)) → Alike fed (starts_fed graph starts arcs)
    → Alike (after_rounds (round_of ncmp icmp answer p graph) (prepared_starts ncmp acmp p graph fed) r) (values_of graph (rounds_from answer p graph starts arcs r))

-- and what it makes up to each round
abbrev pub LoopIsFromStarts : Type 0
LoopIsFromStarts = (ncmp : NodeNo → NodeNo → Ordering) → IsOrder ncmp → (acmp : Arc → Arc → Ordering) → IsOrder acmp → (icmp : NodeItem → NodeItem → Ordering) → IsItemOrder icmp
    → (answer : Answer) (p : Program) (graph : GraphData) (starts : List Val) → length starts ≡ length graph.ids → (arcs : List Arc) → IsViewOf graph arcs
    → (rounds r : ℕ) → r ≤ rounds → (fed : List (StartInput × ℕ)) → Alike fed (starts_fed graph starts arcs)
    → Alike (through r (start_apply ncmp acmp icmp answer p graph rounds fed)) (values_of graph (rounds_from answer p graph starts arcs r))

-- the input of a node after so many rounds that begin with these starts: its start, its value, and its messages
abbrev pub input_from : Answer → Program → GraphData → List Val → List Arc → ℕ → ℕ → List Item
input_from answer p graph starts arcs v r =
    let values = rounds_from answer p graph starts arcs r in
    (Item.start (value_at starts v) ∷ Item.own (value_at values v) ∷ []) ++ map Item.message (received p graph arcs values v)

-- one step a round of each step of the whole; a seal of the whole seals it at round 0; where what the whole was fed up to a time
-- at which nothing is due is one start a node and a view, each node was fed its input in each round from these starts, once, and
-- no other number was fed anything; each step of the whole is charged what its rounds are, together, and each of these since the
-- seal the nodes that are evaluated at it, judged over the run up to it; these are all that is charged
pub record InnerFromStarts {T : Type 0} (leq : T → T → Bool) (lub : T → T → T) (pcmp : Pair T Round → Pair T Round → Ordering) (ncmp : NodeNo → NodeNo → Ordering) (icmp : NodeItem → NodeItem → Ordering) (answer : Answer) (p : Program) (graph : GraphData) (rounds : ℕ) (seal : T) (due : List T) (charge : ℕ) (run : Run T StartInput (Round × (NodeNo × Val))) : Type 0 where
  pub inner : Run (Pair T Round) (NodeNo × NodeItem) (NodeNo × Val)
  pub times : times_of inner.steps ≡ all_rounds rounds (times_of run.steps)
  pub before : inner.before ≡ run.before * rounds
  pub base : inner.base ≡ run.base
  pub inputs : (t : T) → IsTrue (leq seal t) → NoneBelow leq t due
      → (starts : List Val) → length starts ≡ length graph.ids → (arcs : List Arc) → IsViewOf graph arcs → Alike (fed_to leq run.steps t) (starts_fed graph starts arcs)
      → (r : ℕ) → r < rounds → (v : NodeNo)
      → (v.0 < length graph.ids → Alike (key_part ncmp v (fed_to (pair_leq leq) inner.steps (pair_of t r))) (once named (input_from answer p graph starts arcs v.0 r)))
      × (length graph.ids ≤ v.0 → Alike (key_part ncmp v (fed_to (pair_leq leq) inner.steps (pair_of t r))) [])
  pub charges : AreSums rounds (charges_of run.steps) (charges_of inner.steps)
  pub each : EachCharged (pair_leq leq) (pair_lub lub) pcmp ncmp icmp (pair_of seal 0) (take inner.before inner.steps) [] (drop inner.before inner.steps)
  pub charged_is : charge ≡ inner.base + charged (pair_leq leq) (pair_lub lub) pcmp ncmp icmp (pair_of seal 0) (take inner.before inner.steps) [] (drop inner.before inner.steps)

-- what stands inside such a loop is such a run
abbrev pub InnerIsFedFromStarts : (T : Type 0) → (T → T → Bool) → (T → T → T) → Type 0
InnerIsFedFromStarts T leq lub = (pcmp : Pair T Round → Pair T Round → Ordering) → (ncmp : NodeNo → NodeNo → Ordering) → IsOrder ncmp → (acmp : Arc → Arc → Ordering) → IsOrder acmp → (icmp : NodeItem → NodeItem → Ordering) → IsItemOrder icmp
    → (answer : Answer) (p : Program) (graph : GraphData) (rounds : ℕ) (seal : T) (due : List T) (charge : ℕ) (run : Run T StartInput (Round × (NodeNo × Val)))
    → LoopInside leq lub pcmp ncmp icmp (prepared_starts ncmp acmp p graph) (items ncmp p graph) (round_of ncmp icmp answer p graph) rounds seal due charge run
    → InnerFromStarts leq lub pcmp ncmp icmp answer p graph rounds seal due charge run
