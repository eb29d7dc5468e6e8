-- The laws, each as one statement.
use Rattle.std.specs.Prelude.{◌≡◌, ℕ, suc, ◌<◌, ◌^◌, Bool, true, List, [], length, map, take, Option, Some, None}
use Rattle.std.specs.declared.cmp.Ordering.{Ordering}
use Rattle.std.specs.declared.cmp.Ordering.TheVariants.{Equal}
use Rattle.lattice_time.specs.declared.pair.Pair.{Pair}
use Rattle.lattice_time.specs.declared.round.Round.{Round}
use Rattle.flow_core.specs.Runs.{Step}
use Rattle.reduce_theory.specs.Evaluated.{key_steps, is_evaluated, charged}
use Rattle.loop_theory.specs.Loops.{pair_leq, pair_lub, pair_of}
use Rattle.graph_model.specs.declared.number.NodeNo.{NodeNo}
use Rattle.graph_model.specs.GraphData.{GraphData, node}
use Rattle.vertex_lang.specs.declared.arc.Arc.{Arc}
use Rattle.vertex_lang.specs.declared.program.Program.{Program}
use Rattle.vertex_lang.specs.Expressions.{Answer}
use Rattle.vertex_lang.specs.Rounds.{nodes_of}
use Rattle.lone_work.specs.Items.{Item}
use Rattle.lone_work.specs.Inputs.{input, input_in}
use Rattle.lone_work.specs.Work.{node_counted, work}
use Rattle.work_theory.specs.Once.{IsNaming}
use Rattle.work_theory.specs.Laps.{Turn, lap_steps, LapOver}

-- orders of times, of nodes and of items under their names: what they call equal is one
pub record Orders {T V : Type 0} (pcmp : Pair T Round → Pair T Round → Ordering) (kcmp : NodeNo → NodeNo → Ordering) (vcmp : V → V → Ordering) (of : Item → V) (to : V → Item) : Type 0 where
  pub psame : (x y : Pair T Round) → pcmp x y ≡ Equal → x ≡ y
  pub pitself : (x : Pair T Round) → pcmp x x ≡ Equal
  pub ksame : (x y : NodeNo) → kcmp x y ≡ Equal → x ≡ y
  pub kitself : (x : NodeNo) → kcmp x x ≡ Equal
  pub vsame : (x y : V) → vcmp x y ≡ Equal → x ≡ y
  pub vitself : (x : V) → vcmp x x ≡ Equal
  pub naming : IsNaming of to

-- a view has fewer than 2^32 arcs
abbrev pub AreFew : Option (List Arc) → Type 0
AreFew None = Unit {0}
AreFew (Some arcs) = length arcs < 2 ^ 32

-- one lap, at an outer time, of a run that is keyed by node: what was fed before the seal accumulates in each round to the
-- items of the view before, and with the lap to those of the new view
abbrev pub IsLapOf : {T V O : Type 0} → (T → T → Bool) → (NodeNo → NodeNo → Ordering) → (V → V → Ordering) → (Item → V) → Answer → Program → GraphData → List Arc → Option (List Arc) → T → T → List (Step (Pair T Round) (NodeNo × V) (NodeNo × O)) → List (Turn (NodeNo × V) (NodeNo × O)) → Type 0
IsLapOf leq kcmp vcmp of answer p graph new old seal t before lap =
    LapOver leq kcmp vcmp of seal t before lap (map node (nodes_of graph)) (λ v. input answer p graph new v.0) (λ v. input_in answer p graph old v.0)

-- in each round of the lap the nodes that are evaluated are those that are counted
abbrev pub EvaluatedIsCounted : (T V O : Type 0) → (T → T → Bool) → (T → T → T) → Type 0
EvaluatedIsCounted T V O leq lub = (pcmp : Pair T Round → Pair T Round → Ordering) (kcmp : NodeNo → NodeNo → Ordering) (vcmp : V → V → Ordering) (of : Item → V) (to : V → Item) → Orders pcmp kcmp vcmp of to
    → (answer : Answer) (p : Program) (graph : GraphData) (new : List Arc) (old : Option (List Arc)) → length new < 2 ^ 32 → AreFew old
    → (seal t : T) (before : List (Step (Pair T Round) (NodeNo × V) (NodeNo × O))) (lap : List (Turn (NodeNo × V) (NodeNo × O))) → IsLapOf leq kcmp vcmp of answer p graph new old seal t before lap
    → (v r : ℕ) → v < length graph.ids → r < length lap
    → is_evaluated (pair_leq leq) (pair_lub lub) pcmp vcmp (pair_of seal 0) (pair_of t r) (key_steps kcmp (node v) before) (key_steps kcmp (node v) (lap_steps t 0 (take (suc r) lap))) ≡ node_counted answer p graph new old v r

-- and no other key is
abbrev pub OnlyNodesAreEvaluated : (T V O : Type 0) → (T → T → Bool) → (T → T → T) → Type 0
OnlyNodesAreEvaluated T V O leq lub = (pcmp : Pair T Round → Pair T Round → Ordering) (kcmp : NodeNo → NodeNo → Ordering) (vcmp : V → V → Ordering) (of : Item → V) (to : V → Item) → Orders pcmp kcmp vcmp of to
    → (answer : Answer) (p : Program) (graph : GraphData) (new : List Arc) (old : Option (List Arc)) → length new < 2 ^ 32 → AreFew old
    → (seal t : T) (before : List (Step (Pair T Round) (NodeNo × V) (NodeNo × O))) (lap : List (Turn (NodeNo × V) (NodeNo × O))) → IsLapOf leq kcmp vcmp of answer p graph new old seal t before lap
    → (v : NodeNo) (r : ℕ) → r < length lap
    → is_evaluated (pair_leq leq) (pair_lub lub) pcmp vcmp (pair_of seal 0) (pair_of t r) (key_steps kcmp v before) (key_steps kcmp v (lap_steps t 0 (take (suc r) lap))) ≡ true → v.0 < length graph.ids

-- what the lap is charged is the work of the new view
abbrev pub LapIsWork : (T V O : Type 0) → (T → T → Bool) → (T → T → T) → Type 0
LapIsWork T V O leq lub = (pcmp : Pair T Round → Pair T Round → Ordering) (kcmp : NodeNo → NodeNo → Ordering) (vcmp : V → V → Ordering) (of : Item → V) (to : V → Item) → Orders pcmp kcmp vcmp of to
    → (answer : Answer) (p : Program) (graph : GraphData) (new : List Arc) (old : Option (List Arc)) → length new < 2 ^ 32 → AreFew old
    → (seal t : T) (before : List (Step (Pair T Round) (NodeNo × V) (NodeNo × O))) (lap : List (Turn (NodeNo × V) (NodeNo × O))) → IsLapOf leq kcmp vcmp of answer p graph new old seal t before lap
    → charged (pair_leq leq) (pair_lub lub) pcmp kcmp vcmp (pair_of seal 0) before [] (lap_steps t 0 lap) ≡ work answer p graph new old (length lap)
