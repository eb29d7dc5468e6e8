-- The laws, each as one statement.
use Rattle.std.specs.Prelude.{◌&&◌, ◌||◌, ◌≢◌, [], ◌≡◌, ℕ, suc, if◌then◌else◌, ◌+◌, ◌*◌, ◌<◌, ◌≤◌, ◌⊎◌, Bool, true, false, not, List, ◌++◌, length, filter, All, Option, Some, None}
use Rattle.std.specs.Bool.{Decides}
use Rattle.std.specs.List.{count_by, sum_by}
use Rattle.graph_model.specs.declared.number.EdgeNo.{EdgeNo}
use Rattle.vertex_lang.specs.declared.program.Along.{Along}
use Rattle.vertex_lang.specs.declared.lone.Rounds.TheVariants as rounds
use Rattle.vertex_lang.specs.declared.lone.Outcome.TheVariants as outcome
use Rattle.std.specs.List.Sorted.{IsPermutation}
use Rattle.vertex_lang.specs.Lone.{same_value, answer_of}
use Rattle.graph_model.specs.GraphData.{GraphData}
use Rattle.vertex_lang.specs.declared.arc.Arc.{Arc}
use Rattle.vertex_lang.specs.declared.program.Program.{Program}
use Rattle.vertex_lang.specs.Expressions.{Answer}
use Rattle.graph_model.specs.declared.value.Val.{Val}
use Rattle.vertex_lang.specs.Arcs.{arcs_between}
use Rattle.vertex_lang.specs.Rounds.{nodes_of, value_at, lone}
use Rattle.multisets.specs.Multisets.{AreOne, are_one, do_cancel}
use Rattle.lone_work.specs.Items.{Item, same_item}
use Rattle.lone_work.specs.Parts.{Picks, picked, own_in, brought, item_of, IsQuiet, Agree, IsCalm}
use Rattle.lone_work.specs.Inputs.{own_values, got_values, input, input_in}
use Rattle.lone_work.specs.Work.{previous, lone_in, IsStepped, node_active, node_touched, node_counted, node_marked, work, touched_before, rounds_marked}

-- the same input gives the same next value
abbrev pub SameInputSameValue : Type 0
SameInputSameValue = (answer : Answer) (p : Program) (graph : GraphData) (new old : List Arc) (r s v : ℕ) → v < length graph.ids
    → AreOne same_item (input answer p graph new v r) (input answer p graph old v s)
    → value_at (lone answer p graph new (r + 1)) v ≡ value_at (lone answer p graph old (s + 1)) v

-- ---- never touched

-- the same input in both views in each round up to this one
abbrev pub UntouchedSameInput : Type 0
UntouchedSameInput = (answer : Answer) (p : Program) (graph : GraphData) (new : List Arc) (old : Option (List Arc)) (v r k : ℕ)
    → node_touched answer p graph new old v r ≡ false → k ≤ r
    → AreOne same_item (input answer p graph new v k) (input_in answer p graph old v k)

-- the same value in both views after this round and before it
abbrev pub UntouchedSameValue : Type 0
UntouchedSameValue = (answer : Answer) (p : Program) (graph : GraphData) (new old : List Arc) (v r k : ℕ) → v < length graph.ids
    → node_touched answer p graph new (Some old) v r ≡ false → k ≤ r + 1
    → value_at (lone answer p graph new k) v ≡ value_at (lone answer p graph old k) v

-- the same mark in both views
abbrev pub UntouchedSameMark : Type 0
UntouchedSameMark = (answer : Answer) (p : Program) (graph : GraphData) (new : List Arc) (old : Option (List Arc)) (v r : ℕ)
    → node_touched answer p graph new old v r ≡ false
    → node_marked answer p graph (Some new) v r ≡ node_marked answer p graph old v r

-- ---- not active, where nothing changed in the view before

abbrev pub QuietSameInput : Type 0
QuietSameInput = (answer : Answer) (p : Program) (graph : GraphData) (new : List Arc) (old : Option (List Arc)) (v r : ℕ)
    → node_active answer p graph new old v r ≡ false → node_marked answer p graph old v r ≡ false
    → node_marked answer p graph (Some new) v r ≡ false

-- where a node has no mark its value stays
abbrev pub UnmarkedSameValue : Type 0
UnmarkedSameValue = (answer : Answer) (p : Program) (graph : GraphData) (arcs : List Arc) (v r : ℕ) → v < length graph.ids
    → node_marked answer p graph (Some arcs) v r ≡ false
    → (0 < r) × (value_at (lone answer p graph arcs (r + 1)) v ≡ value_at (lone answer p graph arcs r) v)

-- ---- not counted

-- never touched up to this round, and all as in the view before; or its input and its value stay
abbrev pub UncountedValue : Type 0
UncountedValue = (answer : Answer) (p : Program) (graph : GraphData) (new : List Arc) (old : Option (List Arc)) (v r : ℕ)
    → v < length graph.ids
    → node_counted answer p graph new old v r ≡ false
    → ((node_touched answer p graph new old v r ≡ false) × (node_marked answer p graph (Some new) v r ≡ node_marked answer p graph old v r) × (value_at (lone answer p graph new (r + 1)) v ≡ value_at (lone_in answer p graph old (r + 1)) v))
    ⊎ ((node_touched answer p graph new old v r ≡ true) × (0 < r) × (node_marked answer p graph (Some new) v r ≡ false) × (value_at (lone answer p graph new (r + 1)) v ≡ value_at (lone answer p graph new r) v))

-- values that are evaluated where a node is counted, stay where it was touched, and are those of the view before where it wasn't, are the next ones
abbrev pub StepIsLone : Type 0
StepIsLone = (answer : Answer) (p : Program) (graph : GraphData) (new : List Arc) (old : Option (List Arc)) (r : ℕ) (values : List Val)
    → length values ≡ length graph.ids
    → ((v : ℕ) → v < length graph.ids → IsStepped answer p graph new old v r (value_at values v))
    → values ≡ lone answer p graph new (r + 1)

-- a mark is the evaluated one where a node is counted, none where it was touched, and that of the view before where it wasn't
abbrev pub MarkByCounted : Type 0
MarkByCounted = (answer : Answer) (p : Program) (graph : GraphData) (new : List Arc) (old : Option (List Arc)) (v r : ℕ) → v < length graph.ids
    → node_counted answer p graph new old v r ≡ false
    → node_marked answer p graph (Some new) v r ≡ (if node_touched answer p graph new old v r then false else node_marked answer p graph old v r)

-- each node is marked at round 0
abbrev pub MarkedAtFirst : Type 0
MarkedAtFirst = (answer : Answer) (p : Program) (graph : GraphData) (arcs : List Arc) (v : ℕ) → node_marked answer p graph (Some arcs) v 0 ≡ true

-- the value of a node that wasn't touched up to a round agrees in the next one
abbrev pub UntouchedAgree : Type 0
UntouchedAgree = (answer : Answer) (p : Program) (graph : GraphData) (new old : List Arc) (v r : ℕ) → v < length graph.ids
    → node_touched answer p graph new (Some old) v r ≡ false
    → Agree (λ k. value_at (lone answer p graph new k) v) (λ k. value_at (lone answer p graph old k) v) (suc r)

-- starts agree
abbrev pub StartsAgree : Type 0
StartsAgree = (answer : Answer) (p : Program) (graph : GraphData) (new old : List Arc) (v : ℕ)
    → Agree (λ k. value_at (lone answer p graph new k) v) (λ k. value_at (lone answer p graph old k) v) 0

-- ---- the first view of a segment: counted where the input changes

abbrev pub FirstViewTouched : Type 0
FirstViewTouched = (answer : Answer) (p : Program) (graph : GraphData) (new : List Arc) (v r : ℕ) → node_touched answer p graph new None v r ≡ true

abbrev pub FirstViewCounted : Type 0
FirstViewCounted = (answer : Answer) (p : Program) (graph : GraphData) (new : List Arc) (v r : ℕ)
    → node_counted answer p graph new None v r ≡ node_marked answer p graph (Some new) v r

-- ---- nothing is counted

-- a round in which no value changed in either view
abbrev pub SettledCostsNothing : Type 0
SettledCostsNothing = (answer : Answer) (p : Program) (graph : GraphData) (new old : List Arc) (v r : ℕ)
    → lone answer p graph new (r + 1) ≡ lone answer p graph new r → lone answer p graph old (r + 1) ≡ lone answer p graph old r
    → node_counted answer p graph new (Some old) v (r + 1) ≡ false

-- the work of a view that equals the one before
abbrev pub EqualViewsNoWork : Type 0
EqualViewsNoWork = (answer : Answer) (p : Program) (graph : GraphData) (arcs : List Arc) (rounds : ℕ) → work answer p graph arcs (Some arcs) rounds ≡ 0

-- from a round on in which no value changes in either view
abbrev pub SettledWork : Type 0
SettledWork = (answer : Answer) (p : Program) (graph : GraphData) (new old : List Arc) (m rounds : ℕ)
    → lone answer p graph new (m + 1) ≡ lone answer p graph new m → lone answer p graph old (m + 1) ≡ lone answer p graph old m → m < rounds
    → work answer p graph new (Some old) rounds ≡ work answer p graph new (Some old) (m + 1)

-- ---- no candidate

-- where the node's own items cancel and what each arc into it brings cancels, it isn't active
abbrev pub NoCandidate : Type 0
NoCandidate = (answer : Answer) (p : Program) (graph : GraphData) (all : List Arc) (new : Arc → Bool) (old : Picks) (v r : ℕ)
    → IsQuiet (own_in answer p graph (Some (filter new all)) v) (own_in answer p graph (picked all old) v) r
    → All (λ a. a.head.0 ≡ v → IsQuiet (λ k. item_of (brought answer p graph all (Some new) a k)) (λ k. item_of (brought answer p graph all old a k)) r) all
    → node_active answer p graph (filter new all) (picked all old) v r ≡ false

-- the same by values
abbrev pub AllAgree : Type 0
AllAgree = (answer : Answer) (p : Program) (graph : GraphData) (all : List Arc) (new old : Arc → Bool) (v r : ℕ)
    → Agree (λ k. value_at (lone answer p graph (filter new all) k) v) (λ k. value_at (lone answer p graph (filter old all) k) v) r
    → All (λ a. a.head.0 ≡ v → Agree (brought answer p graph all (Some new) a) (brought answer p graph all (Some old) a) r) all
    → node_active answer p graph (filter new all) (Some (filter old all)) v r ≡ false

-- ---- views whose arcs are in another order

-- the work of a view whose arcs are those of the one before, in some order
abbrev pub PermutedViewsNoWork : Type 0
PermutedViewsNoWork = (answer : Answer) (p : Program) (graph : GraphData) (new old : List Arc) (rounds : ℕ) → IsPermutation new old → work answer p graph new (Some old) rounds ≡ 0

-- ---- no candidate, by the tails of arcs

abbrev pub CalmArcs : Type 0
CalmArcs = (answer : Answer) (p : Program) (graph : GraphData) (all : List Arc) (new old : Arc → Bool) (v r : ℕ)
    → Agree (λ k. value_at (lone answer p graph (filter new all) k) v) (λ k. value_at (lone answer p graph (filter old all) k) v) r
    → All (λ a. a.head.0 ≡ v → IsCalm answer p graph all new old a r) all
    → node_active answer p graph (filter new all) (Some (filter old all)) v r ≡ false

-- ---- what the tests say

-- a node is not active exactly where each item cancels, counted with signs
abbrev pub ActiveMeans : Type 0
ActiveMeans = (answer : Answer) (p : Program) (graph : GraphData) (new : List Arc) (old : Option (List Arc)) (v r : ℕ)
    → Decides (not (node_active answer p graph new old v r)) (IsQuiet (input answer p graph new v) (input_in answer p graph old v) r)

-- touched is active in some round up to this one
abbrev pub TouchedMeans : Type 0
TouchedMeans = (answer : Answer) (p : Program) (graph : GraphData) (new : List Arc) (old : Option (List Arc)) (v r : ℕ)
    → Decides (node_touched answer p graph new old v r) ((k : ℕ) × (k ≤ r) × (node_active answer p graph new old v k ≡ true))

-- a node has no mark exactly where its input is that of the round before
abbrev pub MarkedMeans : Type 0
MarkedMeans = (answer : Answer) (p : Program) (graph : GraphData) (view : Option (List Arc)) (v r : ℕ)
    → Decides (not (node_marked answer p graph view v r)) (AreOne same_item (input_in answer p graph view v r) (previous (input_in answer p graph view v) r))

-- ---- how work grows

-- each round adds the nodes that are counted in it
abbrev pub WorkByRounds : Type 0
WorkByRounds = (answer : Answer) (p : Program) (graph : GraphData) (new : List Arc) (old : Option (List Arc)) (rounds : ℕ)
    → work answer p graph new old (rounds + 1) ≡ work answer p graph new old rounds + count_by (λ v. node_counted answer p graph new old v rounds) (nodes_of graph)

abbrev pub WorkIsBounded : Type 0
WorkIsBounded = (answer : Answer) (p : Program) (graph : GraphData) (new : List Arc) (old : Option (List Arc)) (rounds : ℕ)
    → work answer p graph new old rounds ≤ length graph.ids * rounds

-- ---- the tests by values: where there's a view before, the start cancels, and values and messages cancel each for themselves

abbrev pub values_cancel : (ℕ → List Val) → (ℕ → List Val) → ℕ → Bool
values_cancel new old r = do_cancel same_value (new r) (old r) (previous new r) (previous old r)

abbrev pub ActiveSplits : Type 0
ActiveSplits = (answer : Answer) (p : Program) (graph : GraphData) (new old : List Arc) (v r : ℕ)
    → node_active answer p graph new (Some old) v r ≡ not (values_cancel (own_values answer p graph new v) (own_values answer p graph old v) r && values_cancel (got_values answer p graph new v) (got_values answer p graph old v) r)

abbrev pub MarkSplits : Type 0
MarkSplits = (answer : Answer) (p : Program) (graph : GraphData) (arcs : List Arc) (v r : ℕ)
    → node_marked answer p graph (Some arcs) v (suc r) ≡ not (same_value (value_at (lone answer p graph arcs (suc r)) v) (value_at (lone answer p graph arcs r) v) && are_one same_value (got_values answer p graph arcs v (suc r)) (got_values answer p graph arcs v r))

-- ---- round by round

-- active or marked, where touched
abbrev pub CountedIs : Type 0
CountedIs = (answer : Answer) (p : Program) (graph : GraphData) (new : List Arc) (old : Option (List Arc)) (v r : ℕ)
    → node_counted answer p graph new old v r ≡ (node_touched answer p graph new old v r && (node_active answer p graph new old v r || node_marked answer p graph old v r))

-- touched before or active now
abbrev pub TouchedIs : Type 0
TouchedIs = (answer : Answer) (p : Program) (graph : GraphData) (new : List Arc) (old : Option (List Arc)) (v r : ℕ)
    → node_touched answer p graph new old v r ≡ (touched_before answer p graph new old v r || node_active answer p graph new old v r)

-- a node that wasn't touched before is active exactly where its messages differ between the views
abbrev pub UntouchedTest : Type 0
UntouchedTest = (answer : Answer) (p : Program) (graph : GraphData) (new old : List Arc) (v r : ℕ) → v < length graph.ids
    → touched_before answer p graph new (Some old) v r ≡ false
    → node_active answer p graph new (Some old) v r ≡ not (are_one same_value (got_values answer p graph new v r) (got_values answer p graph old v r))

-- a touched node is counted exactly where its input changed in the one view or in the other
abbrev pub CountedByMarks : Type 0
CountedByMarks = (answer : Answer) (p : Program) (graph : GraphData) (new : List Arc) (old : Option (List Arc)) (v r : ℕ)
    → node_touched answer p graph new old v r ≡ true
    → node_counted answer p graph new old v r ≡ (node_marked answer p graph (Some new) v r || node_marked answer p graph old v r)

-- the work of a first view
abbrev pub FirstViewWork : Type 0
FirstViewWork = (answer : Answer) (p : Program) (graph : GraphData) (new : List Arc) (rounds : ℕ)
    → work answer p graph new None rounds ≡ sum_by (λ v. rounds_marked (input answer p graph new v) rounds) (nodes_of graph)

-- no round, no work
abbrev pub NoRoundNoWork : Type 0
NoRoundNoWork = (answer : Answer) (p : Program) (graph : GraphData) (new : List Arc) (old : Option (List Arc)) → work answer p graph new old 0 ≡ 0

-- the work of a view whose edges are those of the one before, in some order
abbrev pub SameEdgesNoWork : Type 0
SameEdgesNoWork = (answer : Answer) (p : Program) (graph : GraphData) (way : Along) (new old : List EdgeNo) (rounds : ℕ) → IsPermutation new old
    → work answer p graph (arcs_between way graph new) (Some (arcs_between way graph old)) rounds ≡ 0

-- ---- the settled round

-- the last round that changed something, where the next one changes nothing
abbrev pub SettledAtLastChange : Type 0
SettledAtLastChange = (answer : Answer) (p : Program) (graph : GraphData) (arcs : List Arc) (m n : ℕ) → m < n
    → lone answer p graph arcs (m + 1) ≡ lone answer p graph arcs m
    → ((k : ℕ) → k + 1 ≡ m → lone answer p graph arcs (k + 1) ≢ lone answer p graph arcs k)
    → answer_of answer p graph arcs (rounds.Within n) ≡ record { outcome = outcome.Settled m; values = lone answer p graph arcs m }

-- none, where the last round allowed changed something
abbrev pub UnsettledAtLastChange : Type 0
UnsettledAtLastChange = (answer : Answer) (p : Program) (graph : GraphData) (arcs : List Arc) (k : ℕ)
    → lone answer p graph arcs (k + 1) ≢ lone answer p graph arcs k
    → answer_of answer p graph arcs (rounds.Within (k + 1)) ≡ record { outcome = outcome.Unsettled; values = [] }
