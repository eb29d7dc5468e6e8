-- Rounds from given values, and phases: what follows from their definitions.
use Rattle.std.specs.Prelude.{◌≡◌, ℕ, zero, suc, ◌+◌, ◌<◌, ◌≤◌, ◌-◌, Bool, true, false, if◌then◌else◌, List, [], map, length, refl}
use Rattle.std.specs.List.Sorted.{IsPermutation}
use Rattle.std.proofs.Common.{arith, ap, sym, ◌∙◌, add-one, below_more}
use Rattle.std.proofs.lemmas.Bool.{and_parts, and_from, cond-true, cond-false, false_from_ne_true, true≢false}
use Rattle.std.proofs.lemmas.List.FromFn.{length-map-range_with_len, get_or-map-range_with_len}
use Rattle.graph_model.specs.declared.value.Val.{Val}
use Rattle.graph_model.specs.declared.value.Val.TheVariants.{Nil}
use Rattle.graph_model.specs.GraphData.{GraphData, id_of}
use Rattle.vertex_lang.specs.declared.arc.Arc.{Arc}
use Rattle.vertex_lang.specs.declared.lone.Lone.{Lone}
use Rattle.vertex_lang.specs.declared.lone.Outcome.{Outcome}
use Rattle.vertex_lang.specs.declared.lone.Outcome.TheVariants as outcome
use Rattle.vertex_lang.specs.declared.program.Program.{Program}
use Rattle.vertex_lang.specs.Arcs.{gathered_of}
use Rattle.vertex_lang.specs.AnswerLaws.{same_values_is, same_values_from}
use Rattle.vertex_lang.specs.Expressions.{Answer, start_of}
use Rattle.vertex_lang.specs.GatherLaws.{gathered-one, length-one}
use Rattle.vertex_lang.specs.Lone.{HasAllValues}
use Rattle.vertex_lang.specs.MessageLaws.{received-permuted}
use Rattle.vertex_lang.specs.Rounds.{nodes_of, value_at, received, next_of, next, lone}
use Rattle.vertex_lang.specs.RoundLaws.{same_over_nodes, answer-by, map-same}
use Rattle.vertex_lang.specs.Phases.{next_with_of, next_with, rounds_from, starts_of, phase_values, are_quiet, phases_answer, IsQuiet, AreQuiet, EndsInPhases, IsPhasesAnswer}

-- ---- one round more

pub from_starts : (answer : Answer) (p : Program) (graph : GraphData) (starts : List Val) (arcs : List Arc) → rounds_from answer p graph starts arcs 0 ≡ starts
unfolding rounds_from
from_starts answer p graph starts arcs = refl

pub from_next : (answer : Answer) (p : Program) (graph : GraphData) (starts : List Val) (arcs : List Arc) (r : ℕ) → rounds_from answer p graph starts arcs (r + 1) ≡ next_with answer p graph starts arcs (rounds_from answer p graph starts arcs r)
unfolding rounds_from
from_next answer p graph starts arcs r = ap (rounds_from answer p graph starts arcs) (add-one r)

pub next-with-at : (answer : Answer) (p : Program) (graph : GraphData) (starts : List Val) (arcs : List Arc) (values : List Val) (v : ℕ) → v < length graph.ids → value_at (next_with answer p graph starts arcs values) v ≡ next_with_of answer p graph starts arcs values v
unfolding next_with
next-with-at answer p graph starts arcs values v low = get_or-map-range_with_len (next_with_of answer p graph starts arcs values) 0 (length graph.ids) v v Nil low (omega arith)

pub length-from : (answer : Answer) (p : Program) (graph : GraphData) (starts : List Val) (arcs : List Arc) (r : ℕ) → length starts ≡ length graph.ids → length (rounds_from answer p graph starts arcs r) ≡ length graph.ids
unfolding rounds_from next_with
length-from answer p graph starts arcs zero size = size
length-from answer p graph starts arcs (suc r) size = length-map-range_with_len (next_with_of answer p graph starts arcs (rounds_from answer p graph starts arcs r)) 0 (length graph.ids)

-- ---- the plain run begins with the program's starts

next-starts : (answer : Answer) (p : Program) (graph : GraphData) (arcs : List Arc) (values : List Val) → next answer p graph arcs values ≡ next_with answer p graph (starts_of p graph) arcs values
unfolding next next_with
next-starts answer p graph arcs values =
    same_over_nodes (next_of answer p graph arcs values) (next_with_of answer p graph (starts_of p graph) arcs values) (length graph.ids) (λ v low.
    let ms = received p graph arcs values v in
    ap (λ (s : Val). answer p (id_of graph v) s (value_at values v) (gathered_of p.gather ms) (length ms))
    (sym (get_or-map-range_with_len (start_of p graph) 0 (length graph.ids) v v Nil low (omega arith))))

pub lone-from : (answer : Answer) (p : Program) (graph : GraphData) (arcs : List Arc) (r : ℕ) → lone answer p graph arcs r ≡ rounds_from answer p graph (starts_of p graph) arcs r
unfolding lone rounds_from
lone-from answer p graph arcs zero = refl
lone-from answer p graph arcs (suc r) = ap (next answer p graph arcs) (lone-from answer p graph arcs r) ∙ next-starts answer p graph arcs (rounds_from answer p graph (starts_of p graph) arcs r)

-- ---- a fixpoint stays

from-stays-for : (answer : Answer) (p : Program) (graph : GraphData) (starts : List Val) (arcs : List Arc) (r n : ℕ) → rounds_from answer p graph starts arcs (r + 1) ≡ rounds_from answer p graph starts arcs r → rounds_from answer p graph starts arcs (r + n) ≡ rounds_from answer p graph starts arcs r
from-stays-for answer p graph starts arcs r zero e = let same : r + zero ≡ r = omega arith in ap (λ k. rounds_from answer p graph starts arcs k) same
from-stays-for answer p graph starts arcs r (suc n) e =
    let more : r + suc n ≡ (r + n) + 1 = omega arith in
    ap (λ k. rounds_from answer p graph starts arcs k) more
    ∙ from_next answer p graph starts arcs (r + n)
    ∙ ap (next_with answer p graph starts arcs) (from-stays-for answer p graph starts arcs r n e)
    ∙ sym (from_next answer p graph starts arcs r)
    ∙ e

pub from-stays : (answer : Answer) (p : Program) (graph : GraphData) (starts : List Val) (arcs : List Arc) (r k : ℕ) → rounds_from answer p graph starts arcs (r + 1) ≡ rounds_from answer p graph starts arcs r → r ≤ k → rounds_from answer p graph starts arcs k ≡ rounds_from answer p graph starts arcs r
from-stays answer p graph starts arcs r k e low = let same : r + (k - r) ≡ k = omega arith in ap (λ n. rounds_from answer p graph starts arcs n) (sym same) ∙ from-stays-for answer p graph starts arcs r (k - r) e

-- ---- in any order of the arcs

with-permuted : (answer : Answer) (p : Program) (graph : GraphData) (starts : List Val) (xs ys : List Arc) (values : List Val) (v : ℕ) → IsPermutation xs ys → next_with_of answer p graph starts xs values v ≡ next_with_of answer p graph starts ys values v
with-permuted answer p graph starts xs ys values v s =
    let ms = received p graph xs values v in
    let ns = received p graph ys values v in
    let same = received-permuted p graph xs ys values v s in
    answer-by answer p (id_of graph v) (value_at starts v) (value_at values v) (gathered_of p.gather ms) (gathered_of p.gather ns) (length ms) (length ns) (gathered-one p.gather ms ns same) (length-one ms ns same)

pub permuted-from : (answer : Answer) (p : Program) (graph : GraphData) (starts : List Val) (xs ys : List Arc) (r : ℕ) → IsPermutation xs ys → rounds_from answer p graph starts xs r ≡ rounds_from answer p graph starts ys r
unfolding rounds_from next_with
permuted-from answer p graph starts xs ys zero s = refl
permuted-from answer p graph starts xs ys (suc r) s =
    map-same (next_with_of answer p graph starts xs (rounds_from answer p graph starts xs r)) (next_with_of answer p graph starts ys (rounds_from answer p graph starts xs r)) (nodes_of graph) (λ v. with-permuted answer p graph starts xs ys (rounds_from answer p graph starts xs r) v s)
    ∙ ap (λ (vs : List Val). map (next_with_of answer p graph starts ys vs) (nodes_of graph)) (permuted-from answer p graph starts xs ys r s)

-- ---- phases

module _ (answer : Answer) (p : Program) (graph : GraphData) (starts : List Val) (arcs : List Arc) (n : ℕ) where
  pub phase-starts : phase_values answer p graph starts arcs n 0 ≡ starts
  unfolding phase_values
  phase-starts = refl

  pub phase-next : (k : ℕ) → phase_values answer p graph starts arcs n (k + 1) ≡ rounds_from answer p graph (phase_values answer p graph starts arcs n k) arcs n
  unfolding phase_values
  phase-next k = ap (phase_values answer p graph starts arcs n) (add-one k)

  pub length-phase : (k : ℕ) → length starts ≡ length graph.ids → length (phase_values answer p graph starts arcs n k) ≡ length graph.ids
  unfolding phase_values
  length-phase zero size = size
  length-phase (suc k) size = length-from answer p graph (phase_values answer p graph starts arcs n k) arcs n (length-phase k size)

  -- whether the phases are quiet is told rightly
  quiet-each : (m : ℕ) → are_quiet answer p graph starts arcs n m ≡ true → AreQuiet answer p graph starts arcs n m
  unfolding are_quiet
  quiet-each zero e = λ k low. absurd (omega arith)
  quiet-each (suc m) e =
      let parts = and_parts _ _ e in
      λ k low. below_more (λ j. IsQuiet answer p graph (phase_values answer p graph starts arcs n j) arcs n) m (quiet-each m parts.0) (same_values_is _ _ parts.1) k (omega arith)

  each-quiet : (m : ℕ) → AreQuiet answer p graph starts arcs n m → are_quiet answer p graph starts arcs n m ≡ true
  unfolding are_quiet
  each-quiet zero each = refl
  each-quiet (suc m) each = and_from _ _ (each-quiet m (λ k low. each k (omega arith))) (same_values_from _ _ (each m (omega arith)))

-- the answer meets the relation
meets-by : (answer : Answer) (p : Program) (graph : GraphData) (starts : List Val) (arcs : List Arc) (n m : ℕ) (b : Bool) → are_quiet answer p graph starts arcs n m ≡ b
    → (λ (l : Lone). EndsInPhases answer p graph starts arcs n m l.outcome l.values) (if b then record { outcome = outcome.Phases m; values = phase_values answer p graph starts arcs n m } else record { outcome = outcome.Unsettled; values = [] })
meets-by answer p graph starts arcs n m true e = (refl, quiet-each answer p graph starts arcs n m e, refl)
meets-by answer p graph starts arcs n m false e = (λ each. true≢false (sym (each-quiet answer p graph starts arcs n m each) ∙ e), refl)

pub phases-meet : (answer : Answer) (p : Program) (graph : GraphData) (arcs : List Arc) (n m : ℕ) → IsPhasesAnswer answer p graph arcs n m (phases_answer answer p graph arcs n m)
phases-meet answer p graph arcs n m = meets-by answer p graph (starts_of p graph) arcs n m (are_quiet answer p graph (starts_of p graph) arcs n m) refl

-- and what meets the relation is the answer
lone-by : (o o' : Outcome) (vs vs' : List Val) → o ≡ o' → vs ≡ vs' → Path Lone (record { outcome = o; values = vs }) (record { outcome = o'; values = vs' })
lone-by o o' vs vs' e f = cc

one-by : (answer : Answer) (p : Program) (graph : GraphData) (arcs : List Arc) (n m : ℕ) (o : Outcome) (last : List Val) → EndsInPhases answer p graph (starts_of p graph) arcs n m o last → Path Lone (record { outcome = o; values = last }) (phases_answer answer p graph arcs n m)
one-by answer p graph arcs n m (outcome.Settled r) last h = absurd h
one-by answer p graph arcs n m (outcome.After r) last h = absurd h
one-by answer p graph arcs n m (outcome.Phases k) last h =
    lone-by (outcome.Phases k) (outcome.Phases m) last (phase_values answer p graph (starts_of p graph) arcs n m) (ap (λ (j : ℕ). outcome.Phases j) h.0) h.2
    ∙ sym (cond-true _ _ _ (each-quiet answer p graph (starts_of p graph) arcs n m h.1))
one-by answer p graph arcs n m outcome.Unsettled last h =
    lone-by outcome.Unsettled outcome.Unsettled last [] refl h.1
    ∙ sym (cond-false _ _ _ (false_from_ne_true _ (λ e. h.0 (quiet-each answer p graph (starts_of p graph) arcs n m e))))

pub phases-one : (answer : Answer) (p : Program) (graph : GraphData) (arcs : List Arc) (n m : ℕ) (l : Lone) → IsPhasesAnswer answer p graph arcs n m l → l ≡ phases_answer answer p graph arcs n m
phases-one answer p graph arcs n m l h = one-by answer p graph arcs n m l.outcome l.values h

size-by : (answer : Answer) (p : Program) (graph : GraphData) (arcs : List Arc) (n m : ℕ) (b : Bool)
    → HasAllValues graph (if b then record { outcome = outcome.Phases m; values = phase_values answer p graph (starts_of p graph) arcs n m } else record { outcome = outcome.Unsettled; values = [] })
size-by answer p graph arcs n m true = length-phase answer p graph (starts_of p graph) arcs n m (length-map-range_with_len (start_of p graph) 0 (length graph.ids))
size-by answer p graph arcs n m false = tt

pub phases-size : (answer : Answer) (p : Program) (graph : GraphData) (arcs : List Arc) (n m : ℕ) → HasAllValues graph (phases_answer answer p graph arcs n m)
phases-size answer p graph arcs n m = size-by answer p graph arcs n m (are_quiet answer p graph (starts_of p graph) arcs n m)
