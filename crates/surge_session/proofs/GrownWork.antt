-- Where a graph gets edges of which none is live, a run has the segments and the works that it had, and their text.
use Rattle.std.proofs.Common.{◌≡◌, ◌∙◌, ◌+◌, ℕ, List, [], ◌∷◌, ◌++◌, length, fold, Option, Some, None, slice_get, refl, ap, ap₂, arith, codes}
use Rattle.std.specs.Prelude.{if◌then◌else◌}
use mathlib.Core.Path.{fun_ext}
use Rattle.graph_model.specs.declared.number.EdgeNo.{EdgeNo}
use Rattle.vertex_lang.specs.declared.arc.Arc.{Arc}
use Rattle.vertex_lang.specs.Arcs.{arcs_between}
use Rattle.vertex_lang.specs.Expressions.{Answer}
use Rattle.vertex_lang.specs.Lone.{number_of}
use Rattle.lone_work.specs.Work.{work}
use Rattle.segment_split.specs.declared.SplitRule.{SplitRule}
use Rattle.segment_split.specs.declared.Counts.{Counts}
use Rattle.segment_split.specs.Rule.{starts_new}
use Rattle.gvdl_check.specs.declared.plan.ViewPlan.{ViewPlan}
use Rattle.gvdl_check.specs.declared.plan.RunPlan.{RunPlan}
use Rattle.result_tables.specs.TableText.{line_end}
use Rattle.view_segment.specs.Segments.{last_of}
use Rattle.view_segment.specs.Tasks.{Task, work_of, works_from, works_of}
use Rattle.view_engine.specs.Splits.{difference, first_number, later_sum, first_edges, later_edges, counts_of, with_next, segments_of}
use Rattle.grown_graphs.specs.Growing.{AlongEdgesOf, AreEdgesOf}
use Rattle.grown_graphs.specs.RunLaws.{along-edges}
use Rattle.grown_graphs.specs.Laws.{same-arcs-of, same-works}
use Rattle.surge_session.specs.Live.{LiveGraph, live_edges}
use Rattle.surge_session.specs.Output.{list_of, edges_at, run_task, segment_lines, work_lines, named_work}
use Rattle.surge_session.proofs.GrownViews.{HasGrown, same_at}
use Rattle.surge_session.proofs.ViewEdges.{live_edges_within}

module _ (w x : LiveGraph) (grown : HasGrown w x) (answer : Answer) (run : RunPlan) (views : List ViewPlan) where
  -- ---- the works of views

  old_view : (view : Option ViewPlan) → AreEdgesOf w.graph (list_of (λ (v : ViewPlan). live_edges w v.rule) view)
  old_view None = λ k d lt. absurd (omega (arith, lt))
  old_view (Some view) = live_edges_within w view.rule

  old_edges : (v : ℕ) → AreEdgesOf w.graph (edges_at w views (Some v))
  old_edges v = old_view (slice_get views v)

  abbrev arcs_in : LiveGraph → ℕ → List Arc
  arcs_in y v = arcs_between run.program.along y.graph (edges_at y views (Some v))

  same_arcs : (v : ℕ) → arcs_in x v ≡ arcs_in w v
  same_arcs v =
      ap (arcs_between run.program.along x.graph) (same_at w x grown views (Some v))
      ∙ same-arcs-of w.graph x.graph run.program.along (edges_at w views (Some v)) grown.graph (old_edges v)

  old_arcs : (v : ℕ) → AlongEdgesOf w.graph (arcs_in w v)
  old_arcs v = along-edges w.graph w.graph run.program.along (edges_at w views (Some v)) (old_edges v)

  same_work_of : (before : Option ℕ) (v : ℕ) → work_of (run_task answer x run views) before v ≡ work_of (run_task answer w run views) before v
  same_work_of None v =
      ap (λ (new : List Arc). work answer run.program x.graph new None (number_of run.rounds)) (same_arcs v)
      ∙ same-works w.graph x.graph answer run.program (arcs_in w v) None (number_of run.rounds) grown.graph (old_arcs v) tt
  same_work_of (Some u) v =
      ap₂ (λ (new old : List Arc). work answer run.program x.graph new (Some old) (number_of run.rounds)) (same_arcs v) (same_arcs u)
      ∙ same-works w.graph x.graph answer run.program (arcs_in w v) (Some (arcs_in w u)) (number_of run.rounds) grown.graph (old_arcs v) (old_arcs u)

  same_works_from : (before : Option ℕ) (vs : List ℕ) → works_from (run_task answer x run views) before vs ≡ works_from (run_task answer w run views) before vs
  same_works_from before [] = refl
  same_works_from before (v ∷ vs) = ap₂ (λ (n : ℕ) (ns : List ℕ). n ∷ ns) (same_work_of before v) (same_works_from (Some v) vs)

  same_works_of : (vs : List ℕ) → works_of (run_task answer x run views) vs ≡ works_of (run_task answer w run views) vs
  same_works_of vs = same_works_from None vs

  -- ---- segments

  -- what a rule looks at, by the works of a segment and the edges of views
  abbrev counts_by : (ℕ → List EdgeNo) → List ℕ → List ℕ → ℕ → Counts
  counts_by edges works vs next =
      let task : Task = record { answer = answer; program = run.program; graph = w.graph; rounds = run.rounds; edges = edges } in
      record {
        in_segment = length vs;
        first_edges = first_edges task vs;
        first_work = first_number works;
        later_edges = later_edges task vs;
        later_work = later_sum works;
        next_edges = length (edges next);
        next_difference = difference task (last_of vs) next;
      }

  same_counts : (vs : List ℕ) (next : ℕ) → counts_of (run_task answer x run views) vs next ≡ counts_of (run_task answer w run views) vs next
  same_counts vs next = ap₂ (λ (edges : ℕ → List EdgeNo) (works : List ℕ). counts_by edges works vs next) (fun_ext (λ v. same_at w x grown views (Some v))) (same_works_of vs)

  same_next : (split : SplitRule) (ss : List (List ℕ)) (v : ℕ) → with_next (run_task answer x run views) split ss v ≡ with_next (run_task answer w run views) split ss v
  same_next split [] v = refl
  same_next split (s ∷ []) v = ap (λ (c : Counts). if starts_new split c then s ∷ ((v ∷ []) ∷ []) else (s ++ (v ∷ [])) ∷ []) (same_counts s v)
  same_next split (s ∷ t ∷ ss) v = ap (λ (rest : List (List ℕ)). s ∷ rest) (same_next split (t ∷ ss) v)

  same_segments : (split : SplitRule) (order : List ℕ) → segments_of (run_task answer x run views) split order ≡ segments_of (run_task answer w run views) split order
  unfolding segments_of
  same_segments split order = ap (λ (f : List (List ℕ) → ℕ → List (List ℕ)). fold f [] order) (fun_ext (λ ss. fun_ext (same_next split ss)))

  -- ---- their text

  same_lines : (k : ℕ) (ss : List (List ℕ)) → work_lines (run_task answer x run views) views k ss ≡ work_lines (run_task answer w run views) views k ss
  same_lines k [] = refl
  same_lines k (vs ∷ rest) = ap₂ (λ (works lines : List ℕ). segment_lines views k vs works ++ lines) (same_works_of vs) (same_lines (k + 1) rest)

  pub same_named_work : (name : List ℕ) (split : SplitRule) (order : List ℕ)
      → named_work name (run_task answer x run views) views (segments_of (run_task answer x run views) split order)
      ≡ named_work name (run_task answer w run views) views (segments_of (run_task answer w run views) split order)
  same_named_work name split order =
      ap (named_work name (run_task answer x run views) views) (same_segments split order)
      ∙ ap (λ (lines : List ℕ). codes "work " ++ (name ++ (line_end ++ (lines ++ (codes "end" ++ line_end))))) (same_lines 1 (segments_of (run_task answer w run views) split order))
