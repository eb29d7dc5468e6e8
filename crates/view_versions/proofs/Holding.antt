-- What is kept of views that were run.
use Rattle.std.proofs.Common.{◌≡◌, ◌∙◌, ◌++◌, ◌∷◌, ℕ, List, [], Some, length, map, sym, ap, subst, arith}
use Rattle.std.specs.Prelude.{All}
use Rattle.std.proofs.lemmas.List.{get_or-map, length-map}
use Rattle.std.proofs.lemmas.List.Elements.{All-append, All-cons, All-map, All-nil, All-weaker}
use Rattle.graph_model.specs.declared.number.EdgeNo.{EdgeNo}
use Rattle.graph_model.specs.declared.number.ViewNo.{ViewNo}
use Rattle.graph_model.specs.GraphData.{GraphData}
use Rattle.vertex_lang.specs.declared.lone.Rounds.{Rounds}
use Rattle.vertex_lang.specs.declared.program.Program.{Program}
use Rattle.vertex_lang.specs.Arcs.{arcs_between}
use Rattle.vertex_lang.specs.Expressions.{Answer}
use Rattle.vertex_lang.specs.Lone.{number_of, answer_of}
use Rattle.lone_work.specs.Work.{work}
use Rattle.lone_work.specs.WorkLaws.{equal-nothing}
use Rattle.round_kernel.specs.Histories.{IsHistory}
use Rattle.view_matrix.specs.Matrices.{MatrixData, edges_in}
use Rattle.view_segment.specs.Tasks.{Task, task_over}
use Rattle.view_versions.specs.declared.run.ViewRun.{ViewRun}
use Rattle.view_versions.specs.Runs.{HoldsRun, IsSound}
use Rattle.view_versions.specs.Touched.{edit_work}

-- a run is sound whatever view it is of
pub sound-run : (task : Task) (run : ViewRun) → HoldsRun task run → IsSound task.program task.graph (number_of task.rounds) run.history
sound-run task run holds = record { within = λ k low. (holds.history.changes k low).within; starts = holds.history.starts }

pub sound-runs : (task : Task) (runs : List ViewRun) → All (HoldsRun task) runs → All (λ run. IsSound task.program task.graph (number_of task.rounds) run.history) runs
sound-runs task runs holds = All-weaker (HoldsRun task) (λ run. IsSound task.program task.graph (number_of task.rounds) run.history) (λ run h. sound-run task run h) runs holds

-- ---- over two matrices in which a view has the same edges

module _ (answer : Answer) (p : Program) (graph : GraphData) (rounds : Rounds) (m n : MatrixData) where
  pub held-still : (run : ViewRun) → edges_in m run.view.0 ≡ edges_in n run.view.0 → HoldsRun (task_over answer p graph rounds m) run → HoldsRun (task_over answer p graph rounds n) run
  held-still run e is = record {
    history = subst (λ (es : List EdgeNo). IsHistory answer p graph (Some (arcs_between p.along graph es)) (number_of rounds) run.history) e is.history;
    outcome = is.outcome ∙ ap (λ (es : List EdgeNo). (answer_of answer p graph (arcs_between p.along graph es) rounds).outcome) e;
  }

  -- a step from the one to the other costs nothing
  pub still-nothing : (v : ℕ) → edges_in m v ≡ edges_in n v → edit_work (task_over answer p graph rounds m) (task_over answer p graph rounds n) v ≡ 0
  still-nothing v e =
      ap (λ (es : List EdgeNo). work answer p graph (arcs_between p.along graph (edges_in n v)) (Some (arcs_between p.along graph es)) (number_of rounds)) e
      ∙ equal-nothing answer p graph (arcs_between p.along graph (edges_in n v)) (number_of rounds)

-- ---- the views of runs

pub one-more : {A : Type 0} (P : A → Type 0) (xs : List A) (x : A) → All P xs → P x → All P (xs ++ x ∷ [])
one-more P xs x h k = All-append P xs (x ∷ []) h (All-cons P x [] k (All-nil P))

-- what holds of their views holds of the runs
pub by-views : (P : ViewNo → Type 0) (runs : List ViewRun) → All P (map (λ run. run.view) runs) → All (λ run. P run.view) runs
by-views P runs h k d low =
    subst P (get_or-map (λ (run : ViewRun). run.view) runs k d d.view low) (h k d.view (omega (arith, low, length-map runs (λ (run : ViewRun). run.view))))

-- runs of the same views
pub same-count : (others runs : List ViewRun) → map (λ run. run.view) others ≡ map (λ run. run.view) runs → length others ≡ length runs
same-count others runs e = sym (length-map others (λ (run : ViewRun). run.view)) ∙ ap (λ (vs : List ViewNo). length vs) e ∙ length-map runs (λ (run : ViewRun). run.view)

pub views-kept : (P : ViewNo → Type 0) (runs others : List ViewRun) → map (λ run. run.view) others ≡ map (λ run. run.view) runs → All (λ run. P run.view) runs → All (λ run. P run.view) others
views-kept P runs others e h = by-views P others (subst (λ (vs : List ViewNo). All P vs) (sym e) (All-map P (λ (run : ViewRun). run.view) runs h))
