-- A run whose last step came after the seal, and all others before it.
use Rattle.std.specs.Prelude.{◌≡◌, ℕ, ◌+◌, ◌<◌, ◌^◌, Bool, false, IsTrue, List, [], ◌∷◌, ◌++◌, length, All, Option, Some, None}
use Rattle.std.specs.declared.cmp.Ordering.{Ordering}
use Rattle.lattice_time.specs.declared.pair.Pair.{Pair}
use Rattle.lattice_time.specs.declared.round.Round.{Round}
use Rattle.weighted.specs.Alike.{Alike}
use Rattle.flow_core.specs.Runs.{Step, Run, Every, NoneBelow, fed_to}
use Rattle.graph_model.specs.declared.value.Val.{Val}
use Rattle.graph_model.specs.declared.number.NodeNo.{NodeNo}
use Rattle.graph_model.specs.GraphData.{GraphData}
use Rattle.vertex_lang.specs.declared.arc.Arc.{Arc}
use Rattle.vertex_lang.specs.declared.program.Program.{Program}
use Rattle.vertex_lang.specs.Arcs.{IsArc}
use Rattle.vertex_lang.specs.Expressions.{Answer}
use Rattle.lone_work.specs.Work.{work}
use Rattle.vertex_items.specs.declared.item.NodeItem.{NodeItem}
use Rattle.vertex_items.specs.declared.input.FlowInput.{FlowInput}
use Rattle.vertex_items.specs.Laws.{IsItemOrder}
use Rattle.view_items.specs.Collections.{items}
use Rattle.view_items.specs.Prepared.{prepared, view_fed}
use Rattle.view_items.specs.Rounds.{round_of}
use Rattle.view_items.specs.Laws.{IsOrder}
use Rattle.inner_theory.specs.Inside.{LoopInside}

pub record IsTurn {T I O : Type 0} (leq : T → T → Bool) (seal : T) (run : Run T I O) (front : List (Step T I O)) (step : Step T I O) : Type 0 where
  pub steps : run.steps ≡ front ++ step ∷ []
  pub before : run.before ≡ length front
  pub old : Every (λ s. IsTrue (leq s.time seal)) front
  pub up : IsTrue (leq seal step.time)
  pub later : leq step.time seal ≡ false

-- a view that may be none, as a collection of nodes and arcs
abbrev pub fed_of_view : GraphData → Option (List Arc) → List (FlowInput × ℕ)
fed_of_view graph None = []
fed_of_view graph (Some arcs) = view_fed graph arcs

pub record IsViewOf (graph : GraphData) (arcs : List Arc) : Type 0 where
  pub are_arcs : All (IsArc graph) arcs
  pub few : length arcs < 2 ^ 32

abbrev pub MayBeView : GraphData → Option (List Arc) → Type 0
MayBeView graph None = Unit {0}
MayBeView graph (Some arcs) = IsViewOf graph arcs

-- where what was fed accumulates to one view at the seal and to another at the last step, and nothing is due at or
-- below that step, the charge since the seal is the work of the new view behind the old one
abbrev pub TurnIsWork : (T : Type 0) → (T → T → Bool) → (T → T → T) → Type 0
TurnIsWork T leq lub = (pcmp : Pair T Round → Pair T Round → Ordering) → IsOrder pcmp → (ncmp : NodeNo → NodeNo → Ordering) → IsOrder ncmp → (acmp : Arc → Arc → Ordering) → IsOrder acmp → (icmp : NodeItem → NodeItem → Ordering) → IsItemOrder icmp
    → (answer : Answer) (p : Program) (graph : GraphData) (rounds : ℕ) (seal : T) (due : List T) (charge : ℕ) (run : Run T FlowInput (Round × (NodeNo × Val)))
    → LoopInside leq lub pcmp ncmp icmp (prepared ncmp acmp p graph) (items ncmp p graph) (round_of ncmp icmp answer p graph) rounds seal due charge run
    → (front : List (Step T FlowInput (Round × (NodeNo × Val)))) (step : Step T FlowInput (Round × (NodeNo × Val))) → IsTurn leq seal run front step → NoneBelow leq step.time due
    → (new : List Arc) (old : Option (List Arc)) → IsViewOf graph new → MayBeView graph old
    → Alike (fed_to leq run.steps step.time) (view_fed graph new) → Alike (fed_to leq run.steps seal) (fed_of_view graph old)
    → charge ≡ run.base + work answer p graph new old rounds

-- where a run turned, the charge since the seal is the work of the new view behind the old one
pub record ChargesWork {T : Type 0} (leq : T → T → Bool) (answer : Answer) (p : Program) (graph : GraphData) (rounds : ℕ) (seal : T) (due : List T) (charge : ℕ) (run : Run T FlowInput (Round × (NodeNo × Val))) : Type 0 where
  pub work_is : (front : List (Step T FlowInput (Round × (NodeNo × Val)))) (step : Step T FlowInput (Round × (NodeNo × Val))) → IsTurn leq seal run front step → NoneBelow leq step.time due
      → (new : List Arc) (old : Option (List Arc)) → IsViewOf graph new → MayBeView graph old
      → Alike (fed_to leq run.steps step.time) (view_fed graph new) → Alike (fed_to leq run.steps seal) (fed_of_view graph old)
      → charge ≡ run.base + work answer p graph new old rounds
