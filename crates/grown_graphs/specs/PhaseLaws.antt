-- Runs in phases on the edges that were there.
use Rattle.std.specs.Prelude.{ℕ, zero, suc, ◌≡◌, ◌-◌, Bool, ◌&&◌, if◌then◌else◌, List, [], map, get_or}
use Rattle.std.proofs.Common.{◌∙◌, ap, ap₂, refl}
use Rattle.graph_model.specs.declared.number.EdgeNo.{EdgeNo}
use Rattle.graph_model.specs.declared.value.Val.{Val}
use Rattle.graph_model.specs.GraphData.{GraphData, id_of}
use Rattle.vertex_lang.specs.declared.arc.Arc.{Arc}
use Rattle.vertex_lang.specs.declared.lone.Lone.{Lone}
use Rattle.vertex_lang.specs.declared.lone.Outcome.TheVariants as outcome
use Rattle.vertex_lang.specs.declared.program.Program.{Program}
use Rattle.vertex_lang.specs.Arcs.{arcs_between}
use Rattle.vertex_lang.specs.Expressions.{Answer, start_of}
use Rattle.vertex_lang.specs.Lone.{same_values}
use Rattle.vertex_lang.specs.Phases.{are_quiet, next_with, next_with_of, phase_values, phases_answer, rounds_from, starts_of}
use Rattle.vertex_lang.specs.Rounds.{nodes_of, received, value_at}
use Rattle.grown_graphs.specs.Growing.{AlongEdgesOf, AreEdgesOf, GrowsTo}
use Rattle.grown_graphs.specs.ReadLaws.{same-arcs}
use Rattle.grown_graphs.specs.RunLaws.{along-edges, by-words, same-messages, same-nodes, same-start}

module _ (g h : GraphData) (more : GrowsTo g h) (answer : Answer) (p : Program) where
  -- ---- rounds from given values

  module _ (arcs : List Arc) (old : AlongEdgesOf g arcs) where
    next-at : (starts values : List Val) (v : ℕ) → next_with_of answer p h starts arcs values v ≡ next_with_of answer p g starts arcs values v
    next-at starts values v =
        by-words g h more answer p (value_at values v) (value_at starts v) (value_at starts v) (id_of h v) (id_of g v) (received p h arcs values v) (received p g arcs values v)
        (ap (λ (ids : List ℕ). get_or ids v 0) more.ids) refl (same-messages g h more p arcs values v arcs old)

    next-same : (starts values : List Val) → next_with_of answer p h starts arcs values ≡ next_with_of answer p g starts arcs values
    next-same starts values = λ i v. next-at starts values v i

    same-rounds : (starts : List Val) (r : ℕ) → rounds_from answer p h starts arcs r ≡ rounds_from answer p g starts arcs r
    unfolding rounds_from next_with
    same-rounds starts zero = refl
    same-rounds starts (suc r) =
        ap (λ (vs : List Val). map (next_with_of answer p h starts arcs vs) (nodes_of h)) (same-rounds starts r)
        ∙ ap (map (next_with_of answer p h starts arcs (rounds_from answer p g starts arcs r))) (same-nodes g h more)
        ∙ ap (λ f. map f (nodes_of g)) (next-same starts (rounds_from answer p g starts arcs r))

    -- ---- phases

    same-values : (starts : List Val) (n k : ℕ) → phase_values answer p h starts arcs n k ≡ phase_values answer p g starts arcs n k
    unfolding phase_values
    same-values starts n zero = refl
    same-values starts n (suc k) =
        ap (λ (vs : List Val). rounds_from answer p h vs arcs n) (same-values starts n k) ∙ same-rounds (phase_values answer p g starts arcs n k) n

    same-quiet : (starts : List Val) (n k : ℕ) → are_quiet answer p h starts arcs n k ≡ are_quiet answer p g starts arcs n k
    unfolding are_quiet
    same-quiet starts n zero = refl
    same-quiet starts n (suc k) =
        let there = phase_values answer p g starts arcs n k in
        ap (λ (b : Bool). b && same_values (rounds_from answer p h (phase_values answer p h starts arcs n k) arcs n) (rounds_from answer p h (phase_values answer p h starts arcs n k) arcs (n - 1))) (same-quiet starts n k)
        ∙ ap (λ (vs : List Val). are_quiet answer p g starts arcs n k && same_values (rounds_from answer p h vs arcs n) (rounds_from answer p h vs arcs (n - 1))) (same-values starts n k)
        ∙ ap₂ (λ (a b : List Val). are_quiet answer p g starts arcs n k && same_values a b) (same-rounds there n) (same-rounds there (n - 1))

    same-starts : starts_of p h ≡ starts_of p g
    same-starts = ap (map (start_of p h)) (same-nodes g h more) ∙ ap (λ f. map f (nodes_of g)) (λ i v. same-start g h more p v i)

    -- what phases answer that are quiet, or not, and end with these values
    abbrev ended : ℕ → Bool → List Val → Lone
    ended m quiet values = if quiet then record { outcome = outcome.Phases m; values = values } else record { outcome = outcome.Unsettled; values = [] }

    same-end : (n m : ℕ) → phases_answer answer p h arcs n m ≡ phases_answer answer p g arcs n m
    same-end n m =
        ap (λ (starts : List Val). ended m (are_quiet answer p h starts arcs n m) (phase_values answer p h starts arcs n m)) same-starts
        ∙ ap₂ (ended m) (same-quiet (starts_of p g) n m) (same-values (starts_of p g) n m)

  pub same-phases-over : (edges : List EdgeNo) (n m : ℕ) → AreEdgesOf g edges → phases_answer answer p h (arcs_between p.along h edges) n m ≡ phases_answer answer p g (arcs_between p.along g edges) n m
  same-phases-over edges n m old =
      ap (λ (arcs : List Arc). phases_answer answer p h arcs n m) (same-arcs g h more p.along edges old)
      ∙ same-end (arcs_between p.along g edges) (along-edges g g p.along edges old) n m
