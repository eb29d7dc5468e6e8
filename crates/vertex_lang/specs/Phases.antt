-- Runs that begin with given values, and runs in phases, which are loops around a loop. Values stand by node number.
use Rattle.std.specs.Prelude.{◌≡◌, ℕ, zero, suc, ◌-◌, ◌<◌, Bool, true, ◌&&◌, if◌then◌else◌, List, [], map, length}
use Rattle.graph_model.specs.declared.value.Val.{Val}
use Rattle.graph_model.specs.GraphData.{GraphData, id_of}
use Rattle.vertex_lang.specs.declared.arc.Arc.{Arc}
use Rattle.vertex_lang.specs.declared.program.Program.{Program}
use Rattle.vertex_lang.specs.declared.lone.Rounds.TheVariants as limits
use Rattle.vertex_lang.specs.declared.lone.Outcome.{Outcome}
use Rattle.vertex_lang.specs.declared.lone.Outcome.TheVariants as outcome
use Rattle.vertex_lang.specs.declared.lone.Lone.{Lone}
use Rattle.vertex_lang.specs.Expressions.{Answer, start_of}
use Rattle.vertex_lang.specs.Arcs.{gathered_of}
use Rattle.vertex_lang.specs.Rounds.{nodes_of, value_at, received}
use Rattle.vertex_lang.specs.Lone.{answer_from, rounds_run, same_values}

-- ---- rounds from given values

-- the next value of a node, where its start is the one that stands for it here
abbrev pub next_with_of : Answer → Program → GraphData → (starts : List Val) → List Arc → (values : List Val) → ℕ → Val
next_with_of answer p graph starts arcs values v =
    let ms = received p graph arcs values v in
    answer p (id_of graph v) (value_at starts v) (value_at values v) (gathered_of p.gather ms) (length ms)

-- all nodes change together
unfoldable pub next_with : Answer → Program → GraphData → (starts : List Val) → List Arc → (values : List Val) → List Val
next_with answer p graph starts arcs values = map (next_with_of answer p graph starts arcs values) (nodes_of graph)

-- the values after so many rounds that begin with the starts
unfoldable pub rounds_from : Answer → Program → GraphData → (starts : List Val) → List Arc → ℕ → List Val
rounds_from answer p graph starts arcs zero = starts
rounds_from answer p graph starts arcs (suc r) = next_with answer p graph starts arcs (rounds_from answer p graph starts arcs r)

-- the last of n rounds changed nothing; so it is where there is none
abbrev pub IsQuiet : Answer → Program → GraphData → (starts : List Val) → List Arc → (n : ℕ) → Type 0
IsQuiet answer p graph starts arcs n = rounds_from answer p graph starts arcs n ≡ rounds_from answer p graph starts arcs (n - 1)

-- how many of at most n rounds are gone through, where the first that changes nothing is the last
abbrev pub rounds_gone : Answer → Program → GraphData → (starts : List Val) → List Arc → (n : ℕ) → ℕ
rounds_gone answer p graph starts arcs n = rounds_run n (answer_from (rounds_from answer p graph starts arcs) (limits.Within n)).outcome

-- ---- phases

-- the values with which the nodes start
abbrev pub starts_of : Program → GraphData → List Val
starts_of p graph = map (start_of p graph) (nodes_of graph)

-- the values after so many phases of n rounds each: the first begins with the starts, and each later one with the values
-- of the one before
unfoldable pub phase_values : Answer → Program → GraphData → (starts : List Val) → List Arc → (n : ℕ) → ℕ → List Val
phase_values answer p graph starts arcs n zero = starts
phase_values answer p graph starts arcs n (suc k) = rounds_from answer p graph (phase_values answer p graph starts arcs n k) arcs n

-- ---- as a function

-- whether in each of the first phases the last round changed nothing
unfoldable pub are_quiet : Answer → Program → GraphData → (starts : List Val) → List Arc → (n : ℕ) → ℕ → Bool
are_quiet answer p graph starts arcs n zero = true
are_quiet answer p graph starts arcs n (suc k) =
    are_quiet answer p graph starts arcs n k
    && same_values (rounds_from answer p graph (phase_values answer p graph starts arcs n k) arcs n) (rounds_from answer p graph (phase_values answer p graph starts arcs n k) arcs (n - 1))

-- the answer of m phases of n rounds each, which begin with the program's starts
abbrev pub phases_answer : Answer → Program → GraphData → List Arc → (n m : ℕ) → Lone
phases_answer answer p graph arcs n m =
    if are_quiet answer p graph (starts_of p graph) arcs n m
    then record { outcome = outcome.Phases m; values = phase_values answer p graph (starts_of p graph) arcs n m }
    else record { outcome = outcome.Unsettled; values = [] }

-- ---- the same as a relation

-- in each of m phases the last round changed nothing
abbrev pub AreQuiet : Answer → Program → GraphData → (starts : List Val) → List Arc → (n m : ℕ) → Type 0
AreQuiet answer p graph starts arcs n m = (k : ℕ) → k < m → IsQuiet answer p graph (phase_values answer p graph starts arcs n k) arcs n

abbrev pub EndsInPhases : Answer → Program → GraphData → (starts : List Val) → List Arc → (n m : ℕ) → Outcome → List Val → Type 0
EndsInPhases answer p graph starts arcs n m (outcome.Settled r) last = ⊥
EndsInPhases answer p graph starts arcs n m (outcome.After r) last = ⊥
EndsInPhases answer p graph starts arcs n m (outcome.Phases k) last = (k ≡ m) × AreQuiet answer p graph starts arcs n m × (last ≡ phase_values answer p graph starts arcs n m)
EndsInPhases answer p graph starts arcs n m outcome.Unsettled last = (AreQuiet answer p graph starts arcs n m → ⊥) × (last ≡ [])

abbrev pub IsPhasesAnswer : Answer → Program → GraphData → List Arc → (n m : ℕ) → Lone → Type 0
IsPhasesAnswer answer p graph arcs n m l = EndsInPhases answer p graph (starts_of p graph) arcs n m l.outcome l.values
