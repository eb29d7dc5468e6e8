-- What follows from the definitions, each law as one statement.
use Rattle.std.specs.Prelude.{◌≡◌, ℕ, ◌+◌, ◌<◌, ◌≤◌, ◌==◌, Bool, true, List, [], map, length, sum_by, All, Contains, if◌then◌else◌}
use Rattle.std.specs.List.Sorted.{IsPermutation}
use Rattle.graph_model.specs.declared.number.EdgeNo.{EdgeNo}
use Rattle.graph_model.specs.declared.value.Val.{Val}
use Rattle.graph_model.specs.GraphData.{GraphData, EndsAmong}
use Rattle.multisets.specs.Multisets.{IsExact, often, AreOne}
use Rattle.vertex_lang.specs.declared.arc.Arc.{Arc}
use Rattle.vertex_lang.specs.declared.lone.Lone.{Lone}
use Rattle.vertex_lang.specs.declared.lone.Rounds.{Rounds}
use Rattle.vertex_lang.specs.declared.program.Along.{Along}
use Rattle.vertex_lang.specs.declared.program.Gather.{Gather}
use Rattle.vertex_lang.specs.declared.program.Gather.TheVariants as gather
use Rattle.vertex_lang.specs.declared.program.Program.{Program}
use Rattle.vertex_lang.specs.Arcs.{arcs_between, outdeg, messages, is_sent, gathered_of, IsArc}
use Rattle.vertex_lang.specs.Directions.{RunsAlong}
use Rattle.vertex_lang.specs.Expressions.{Answer, start_of}
use Rattle.vertex_lang.specs.Extremes.{IsLeast, IsGreatest}
use Rattle.vertex_lang.specs.Lone.{same_value, answer_of, IsAnswer, HasAllValues}
use Rattle.vertex_lang.specs.MessageLaws.{sent_of}
use Rattle.vertex_lang.specs.Phases.{next_with_of, next_with, rounds_from, starts_of, phase_values, phases_answer, IsPhasesAnswer}
use Rattle.vertex_lang.specs.Rounds.{value_at, received, next_of, lone}

-- ---- values

-- the test of values tells whether two are one
abbrev pub ValuesExact : Type 0
ValuesExact = IsExact same_value

-- which of two values is the lesser, or the greater, doesn't depend on their order, nor of three on what is joined first
pub record JoinsInAnyOrder (join : Val → Val → Val) : Type 0 where
  pub turned : (x y : Val) → join x y ≡ join y x
  pub grouped : (x y z : Val) → join (join x y) z ≡ join x (join y z)
  pub swapped : (v x y : Val) → join (join v x) y ≡ join (join v y) x

-- ---- gathering

-- what is gathered of messages, and how many they are, depends on their multiset alone
abbrev pub OneMessages : Type 0
OneMessages = (kind : Gather) (ms ns : List Val) → AreOne same_value ms ns → (gathered_of kind ms ≡ gathered_of kind ns) × (length ms ≡ length ns)

abbrev pub PermutedMessages : Type 0
PermutedMessages = (kind : Gather) (ms ns : List Val) → IsPermutation ms ns → (gathered_of kind ms ≡ gathered_of kind ns) × (length ms ≡ length ns)

-- the least of messages is one of them and bounds them all, and so is the greatest
abbrev pub LeastGathered : Type 0
LeastGathered = (ms : List Val) → IsLeast ms (gathered_of gather.Min ms)

abbrev pub GreatestGathered : Type 0
GreatestGathered = (ms : List Val) → IsGreatest ms (gathered_of gather.Max ms)

-- ---- arcs

-- the arcs of edges run along their direction
abbrev pub ArcsRun : Type 0
ArcsRun = (way : Along) (graph : GraphData) (edges : List EdgeNo) → All (RunsAlong way graph) (arcs_between way graph edges)

-- and are those of the edges
abbrev pub ArcsCome : Type 0
ArcsCome = (way : Along) (graph : GraphData) (edges : List EdgeNo) → All (λ a. Contains edges a.edge) (arcs_between way graph edges)

-- where the edges are those of a graph, so are the arcs
abbrev pub ArcsWithin : Type 0
ArcsWithin = (way : Along) (graph : GraphData) (edges : List EdgeNo) → All (EndsAmong (length graph.ids)) graph.ends → All (λ e. e.0 < length graph.ends) edges → All (IsArc graph) (arcs_between way graph edges)

-- ---- messages by arcs

-- how often something stands among what is made of a node's messages is a sum over the arcs
abbrev pub MessagesSum : Type 0 → Type 0
MessagesSum A = (same : A → A → Bool) (f : Val → A) (x : A) (c : Arc → Val) (arcs : List Arc) (v : ℕ)
    → often same x (map f (messages c arcs v)) ≡ sum_by (λ a. often same x (map f (if a.head.0 == v then sent_of (c a) else []))) arcs

-- each message came along an arc
abbrev pub MessageFrom : Type 0
MessageFrom = (c : Arc → Val) (arcs : List Arc) (v : ℕ) (m : Val) → Contains (messages c arcs v) m → (a : Arc) × Contains arcs a × (a.head.0 ≡ v) × (c a ≡ m) × (is_sent m ≡ true)

-- and what an arc carries comes to its head
abbrev pub MessageTo : Type 0
MessageTo = (c : Arc → Val) (arcs : List Arc) (v : ℕ) (a : Arc) → Contains arcs a → a.head.0 ≡ v → is_sent (c a) ≡ true → Contains (messages c arcs v) (c a)

-- ---- rounds

-- one value at first, and in the next round
abbrev pub StartAt : Type 0
StartAt = (answer : Answer) (p : Program) (graph : GraphData) (arcs : List Arc) (v : ℕ) → v < length graph.ids → value_at (lone answer p graph arcs 0) v ≡ start_of p graph v

abbrev pub NextAt : Type 0
NextAt = (answer : Answer) (p : Program) (graph : GraphData) (arcs : List Arc) (r v : ℕ) → v < length graph.ids → value_at (lone answer p graph arcs (r + 1)) v ≡ next_of answer p graph arcs (lone answer p graph arcs r) v

-- each round has one value for each node
abbrev pub LoneLength : Type 0
LoneLength = (answer : Answer) (p : Program) (graph : GraphData) (arcs : List Arc) (r : ℕ) → length (lone answer p graph arcs r) ≡ length graph.ids

-- from a round on that changes nothing the values stay
abbrev pub FixpointStays : Type 0
FixpointStays = (answer : Answer) (p : Program) (graph : GraphData) (arcs : List Arc) (r k : ℕ) → lone answer p graph arcs (r + 1) ≡ lone answer p graph arcs r → r ≤ k → lone answer p graph arcs k ≡ lone answer p graph arcs r

-- ---- rounds from given values

-- the values after each round of a plain run are those of rounds that begin with the program's starts
abbrev pub LoneFromStarts : Type 0
LoneFromStarts = (answer : Answer) (p : Program) (graph : GraphData) (arcs : List Arc) (r : ℕ) → lone answer p graph arcs r ≡ rounds_from answer p graph (starts_of p graph) arcs r

-- what holds of them: the start, the next round and a value in it, how many values there are, and that a fixpoint stays
pub record RoundsFrom (answer : Answer) (p : Program) (graph : GraphData) (starts : List Val) (arcs : List Arc) : Type 0 where
  pub first : rounds_from answer p graph starts arcs 0 ≡ starts
  pub later : (r : ℕ) → rounds_from answer p graph starts arcs (r + 1) ≡ next_with answer p graph starts arcs (rounds_from answer p graph starts arcs r)
  pub value : (values : List Val) (v : ℕ) → v < length graph.ids → value_at (next_with answer p graph starts arcs values) v ≡ next_with_of answer p graph starts arcs values v
  pub size : (r : ℕ) → length starts ≡ length graph.ids → length (rounds_from answer p graph starts arcs r) ≡ length graph.ids
  pub stays : (r k : ℕ) → rounds_from answer p graph starts arcs (r + 1) ≡ rounds_from answer p graph starts arcs r → r ≤ k → rounds_from answer p graph starts arcs k ≡ rounds_from answer p graph starts arcs r
  pub permuted : (others : List Arc) (r : ℕ) → IsPermutation arcs others → rounds_from answer p graph starts arcs r ≡ rounds_from answer p graph starts others r

abbrev pub AreRoundsFrom : Type 0
AreRoundsFrom = (answer : Answer) (p : Program) (graph : GraphData) (starts : List Val) (arcs : List Arc) → RoundsFrom answer p graph starts arcs

-- ---- phases

-- the answer in phases as a function meets the one as a relation, nothing else does, and it has as many values as its outcome says
pub record PhasesAnswer (answer : Answer) (p : Program) (graph : GraphData) (arcs : List Arc) (n m : ℕ) : Type 0 where
  pub first : phase_values answer p graph (starts_of p graph) arcs n 0 ≡ starts_of p graph
  pub later : (k : ℕ) → phase_values answer p graph (starts_of p graph) arcs n (k + 1) ≡ rounds_from answer p graph (phase_values answer p graph (starts_of p graph) arcs n k) arcs n
  pub meets : IsPhasesAnswer answer p graph arcs n m (phases_answer answer p graph arcs n m)
  pub one : (l : Lone) → IsPhasesAnswer answer p graph arcs n m l → l ≡ phases_answer answer p graph arcs n m
  pub size : HasAllValues graph (phases_answer answer p graph arcs n m)

abbrev pub ArePhasesAnswers : Type 0
ArePhasesAnswers = (answer : Answer) (p : Program) (graph : GraphData) (arcs : List Arc) (n m : ℕ) → PhasesAnswer answer p graph arcs n m

-- ---- the order of the arcs doesn't matter

abbrev pub PermutedDegrees : Type 0
PermutedDegrees = (xs ys : List Arc) (u : ℕ) → IsPermutation xs ys → outdeg xs u ≡ outdeg ys u

abbrev pub PermutedReceived : Type 0
PermutedReceived = (p : Program) (graph : GraphData) (xs ys : List Arc) (values : List Val) (v : ℕ) → IsPermutation xs ys → AreOne same_value (received p graph xs values v) (received p graph ys values v)

abbrev pub PermutedNext : Type 0
PermutedNext = (answer : Answer) (p : Program) (graph : GraphData) (xs ys : List Arc) (values : List Val) (v : ℕ) → IsPermutation xs ys → next_of answer p graph xs values v ≡ next_of answer p graph ys values v

abbrev pub PermutedLone : Type 0
PermutedLone = (answer : Answer) (p : Program) (graph : GraphData) (xs ys : List Arc) (r : ℕ) → IsPermutation xs ys → lone answer p graph xs r ≡ lone answer p graph ys r

abbrev pub PermutedAnswer : Type 0
PermutedAnswer = (answer : Answer) (p : Program) (graph : GraphData) (xs ys : List Arc) (limit : Rounds) → IsPermutation xs ys → answer_of answer p graph xs limit ≡ answer_of answer p graph ys limit

-- ---- answers

-- the answer as a function meets the answer as a relation, and nothing else does
abbrev pub AnswerMeets : Type 0
AnswerMeets = (answer : Answer) (p : Program) (graph : GraphData) (arcs : List Arc) (limit : Rounds) → IsAnswer answer p graph arcs limit (answer_of answer p graph arcs limit)

abbrev pub AnswerIsOne : Type 0
AnswerIsOne = (answer : Answer) (p : Program) (graph : GraphData) (arcs : List Arc) (limit : Rounds) (l : Lone) → IsAnswer answer p graph arcs limit l → l ≡ answer_of answer p graph arcs limit
