-- The parts of a dataflow in phases, as functions of collections.
use Rattle.std.specs.Prelude.{ℕ, ◌==◌, List, [], ◌∷◌, if◌then◌else◌}
use Rattle.std.specs.declared.cmp.Ordering.{Ordering}
use Rattle.lattice_time.specs.declared.round.Round.{Round}
use Rattle.flow_core.specs.Expanded.{expanded}
use Rattle.loop_theory.specs.declared.input.LoopInput.{LoopInput}
use Rattle.loop_theory.specs.declared.input.LoopInput.TheVariants.{Fixed, Moving}
use Rattle.loop_theory.specs.Loops.{loop_apply}
use Rattle.graph_model.specs.declared.value.Val.{Val}
use Rattle.graph_model.specs.declared.number.NodeNo.{NodeNo}
use Rattle.graph_model.specs.GraphData.{GraphData}
use Rattle.vertex_lang.specs.declared.arc.Arc.{Arc}
use Rattle.vertex_lang.specs.declared.program.Program.{Program}
use Rattle.vertex_lang.specs.Expressions.{Answer}
use Rattle.vertex_items.specs.declared.item.NodeItem.{NodeItem}
use Rattle.vertex_items.specs.declared.input.StartInput.{StartInput}
use Rattle.vertex_items.specs.declared.input.StartInput.TheVariants as given
use Rattle.flow_work.specs.Values.{start_apply}
use Rattle.phase_flow.specs.declared.item.PhaseItem.{PhaseItem}
use Rattle.phase_flow.specs.declared.item.PhaseItem.TheVariants as item

-- what is in the loop of phases: arcs, which stay, and what the phase before made
abbrev pub InPhase : Type 0
InPhase = LoopInput Arc PhaseItem

-- a start is the value with which the first phase begins
abbrev pub enters : StartInput → List InPhase
enters (given.Start v a) = Moving (item.Value v a) ∷ []
enters (given.Arc a) = Fixed a ∷ []

-- the values at the end of a phase are the starts of the next one
abbrev pub begins : InPhase → List StartInput
begins (Fixed a) = given.Arc a ∷ []
begins (Moving (item.Value v a)) = given.Start v a ∷ []
begins (Moving (item.Late v a)) = []

-- what a phase of n rounds comes to: all changes of its rounds together, and those of the last one by themselves
abbrev pub ends : ℕ → Round × (NodeNo × Val) → List PhaseItem
ends n r = if r.0.0 == n then item.Value r.1.0 r.1.1 ∷ item.Late r.1.0 r.1.1 ∷ [] else item.Value r.1.0 r.1.1 ∷ []

-- one phase of n rounds
abbrev pub phase_of : (NodeNo → NodeNo → Ordering) → (Arc → Arc → Ordering) → (NodeItem → NodeItem → Ordering) → Answer → Program → GraphData → (n : ℕ) → List (InPhase × ℕ) → List (PhaseItem × ℕ)
phase_of ncmp acmp icmp answer p graph n held = expanded (ends n) (start_apply ncmp acmp icmp answer p graph n (expanded begins held))

-- from starts and arcs to what each phase comes to
abbrev pub phases_apply : (NodeNo → NodeNo → Ordering) → (Arc → Arc → Ordering) → (NodeItem → NodeItem → Ordering) → Answer → Program → GraphData → (n phases : ℕ) → List (StartInput × ℕ) → List ((Round × PhaseItem) × ℕ)
phases_apply ncmp acmp icmp answer p graph n phases fed = loop_apply (phase_of ncmp acmp icmp answer p graph n) phases (expanded enters fed)
