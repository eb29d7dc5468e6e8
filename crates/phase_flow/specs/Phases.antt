-- What a dataflow in phases makes, in the words of the phases of a program.
use Rattle.std.specs.Prelude.{ℕ, zero, suc, ◌-◌, ◌≤◌, ◌≡◌, Bool, IsTrue, List, ◌++◌, length, map}
use Rattle.std.specs.declared.cmp.Ordering.{Ordering}
use Rattle.lattice_time.specs.declared.round.Round.{Round}
use Rattle.weighted.specs.Alike.{Alike, negated}
use Rattle.flow_core.specs.Runs.{Run, NoneBelow, fed_to, made_to}
use Rattle.graph_model.specs.declared.value.Val.{Val}
use Rattle.graph_model.specs.declared.number.NodeNo.{NodeNo}
use Rattle.graph_model.specs.GraphData.{GraphData, node}
use Rattle.vertex_lang.specs.declared.arc.Arc.{Arc}
use Rattle.vertex_lang.specs.declared.program.Program.{Program}
use Rattle.vertex_lang.specs.Expressions.{Answer}
use Rattle.vertex_lang.specs.Phases.{phase_values, rounds_from}
use Rattle.vertex_lang.specs.Rounds.{nodes_of, value_at}
use Rattle.work_theory.specs.Once.{once}
use Rattle.vertex_items.specs.declared.input.StartInput.{StartInput}
use Rattle.vertex_items.specs.declared.item.NodeItem.{NodeItem}
use Rattle.vertex_items.specs.Laws.{IsItemOrder}
use Rattle.view_items.specs.Laws.{IsOrder}
use Rattle.view_items.specs.Rounds.{through}
use Rattle.flow_work.specs.Starts.{starts_fed}
use Rattle.flow_work.specs.Turns.{IsViewOf}
use Rattle.phase_flow.specs.declared.item.PhaseItem.{PhaseItem}
use Rattle.phase_flow.specs.declared.item.PhaseItem.TheVariants as item
use Rattle.phase_flow.specs.Items.{phases_apply}

-- each node with its value at the end of a phase, once
abbrev pub ended : GraphData → List Val → List (PhaseItem × ℕ)
ended graph values = once (λ v. item.Value v (value_at values v.0)) (map node (nodes_of graph))

-- each node with what a round gave it, once, less what it had before that round
abbrev pub late : GraphData → (before after : List Val) → List (PhaseItem × ℕ)
late graph before after = once (λ v. item.Late v (value_at after v.0)) (map node (nodes_of graph)) ++ negated (once (λ v. item.Late v (value_at before v.0)) (map node (nodes_of graph)))

-- the values at the end of a phase of n rounds, with the change of its last round; at first the starts
abbrev pub phase_items : Answer → Program → GraphData → (starts : List Val) → List Arc → (n : ℕ) → ℕ → List (PhaseItem × ℕ)
phase_items answer p graph starts arcs n zero = ended graph starts
phase_items answer p graph starts arcs n (suc k) =
    let begun = phase_values answer p graph starts arcs n k in
    ended graph (rounds_from answer p graph begun arcs n) ++ late graph (rounds_from answer p graph begun arcs (n - 1)) (rounds_from answer p graph begun arcs n)

-- where what was fed up to a time at which nothing is due is one start a node and a view, what was made up to that time and up to
-- each phase is the values at its end and the change of its last round
pub record MakesPhases {T : Type 0} (leq : T → T → Bool) (answer : Answer) (p : Program) (graph : GraphData) (n phases : ℕ) (seal : T) (due : List T) (run : Run T StartInput (Round × PhaseItem)) : Type 0 where
  pub items : (t : T) → IsTrue (leq seal t) → NoneBelow leq t due
      → (starts : List Val) → length starts ≡ length graph.ids → (arcs : List Arc) → IsViewOf graph arcs → Alike (fed_to leq run.steps t) (starts_fed graph starts arcs)
      → (k : ℕ) → k ≤ phases → Alike (through k (made_to leq run.steps t)) (phase_items answer p graph starts arcs n k)

-- the same of the function of such a dataflow
abbrev pub LoopIsPhases : Type 0
LoopIsPhases = (ncmp : NodeNo → NodeNo → Ordering) → IsOrder ncmp → (acmp : Arc → Arc → Ordering) → IsOrder acmp → (icmp : NodeItem → NodeItem → Ordering) → IsItemOrder icmp
    → (answer : Answer) (p : Program) (graph : GraphData) (starts : List Val) → length starts ≡ length graph.ids → (arcs : List Arc) → IsViewOf graph arcs
    → (n phases k : ℕ) → 1 ≤ n → k ≤ phases → (fed : List (StartInput × ℕ)) → Alike fed (starts_fed graph starts arcs)
    → Alike (through k (phases_apply ncmp acmp icmp answer p graph n phases fed)) (phase_items answer p graph starts arcs n k)
