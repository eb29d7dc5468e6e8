-- What a step gives of the arcs that the flags choose, it gives of the views.
use Rattle.std.proofs.Common.{◌≡◌, ◌∙◌, Bool, List, Option, Some, None, ℕ, length, ap, sym, subst}
use Rattle.std.specs.Prelude.{Result, IfOk}
use Rattle.std.specs.List.Sorted.{IsPermutation}
use Rattle.std.proofs.lemmas.List.Sorted.{IsPermutation-sym}
use Rattle.graph_model.specs.GraphData.{GraphData}
use Rattle.vertex_lang.specs.declared.arc.Arc.{Arc}
use Rattle.vertex_lang.specs.declared.lone.Lone.{Lone}
use Rattle.vertex_lang.specs.declared.lone.Rounds.{Rounds}
use Rattle.vertex_lang.specs.declared.program.Program.{Program}
use Rattle.vertex_lang.specs.AnswerLaws.{answer_permuted}
use Rattle.vertex_lang.specs.Expressions.{Answer}
use Rattle.vertex_lang.specs.Lone.{number_of, answer_of}
use Rattle.lone_work.specs.Work.{work}
use Rattle.change_lists.specs.declared.history.History.{History}
use Rattle.arc_rows.specs.Views.{arcs_in}
use Rattle.round_kernel.specs.declared.kernel.Kernel.{Kernel}
use Rattle.round_kernel.specs.declared.step.Stepped.{Stepped}
use Rattle.round_kernel.specs.declared.plan.Plan.{Plan}
use Rattle.round_kernel.specs.Histories.{IsHistory}
use Rattle.round_kernel.specs.Plans.{IsFirst, IsNext}
use Rattle.view_matrix.specs.Matrices.{MatrixData}
use Rattle.view_segment.specs.Tasks.{task_over, view_arcs}
use Rattle.view_versions.specs.declared.step.Setting.{Setting}
use Rattle.view_versions.specs.Flags.{flags_of}
use Rattle.view_versions.specs.Runs.{IsSetting, IsStepOf, StepIn}
use Rattle.view_versions.proofs.Choosing.{view-chosen}
use Rattle.view_versions.proofs.Results.{ok-so}
use Rattle.view_versions.proofs.Transport.{AreReordered, history-permuted, work-permuted}

-- what the kernel gives of a view that none stands before, and of one behind another
pub first-of : {E : Type 0} (answer : Answer) (plan : Plan) (arcs : List Arc) (r : Result Stepped E) → IfOk r (IsFirst answer plan arcs)
    → IfOk r (IsStepOf answer plan.program.now plan.graph.now plan.rounds None arcs)
first-of answer plan arcs r =
    ok-so r (IsFirst answer plan arcs) (IsStepOf answer plan.program.now plan.graph.now plan.rounds None arcs) (λ s is. record { history = is.history; outcome = is.outcome; work_is = is.work_is })

pub next-of : {E : Type 0} (answer : Answer) (plan : Plan) (old new : List Arc) (r : Result Stepped E) → IfOk r (IsNext answer plan old new)
    → IfOk r (IsStepOf answer plan.program.now plan.graph.now plan.rounds (Some old) new)
next-of answer plan old new r =
    ok-so r (IsNext answer plan old new) (IsStepOf answer plan.program.now plan.graph.now plan.rounds (Some old) new) (λ s is. record { history = is.history; outcome = is.outcome; work_is = is.work_is })

-- the same arcs in another order
pub reordered : (answer : Answer) (p : Program) (graph : GraphData) (rounds : Rounds) (us vs : Option (List Arc)) (xs ys : List Arc) (s : Stepped) → IsPermutation xs ys → AreReordered us vs
    → IsStepOf answer p graph rounds us xs s → IsStepOf answer p graph rounds vs ys s
reordered answer p graph rounds us vs xs ys s same before is = record {
  history = history-permuted answer p graph xs ys (number_of rounds) s.history same is.history;
  outcome = is.outcome ∙ ap (λ (l : Lone). l.outcome) (answer_permuted answer p graph xs ys rounds same);
  work_is = is.work_is ∙ work-permuted answer p graph xs ys us vs (number_of rounds) same before;
}

module _ (answer : Answer) (s : Setting) (kernel : Kernel) (is : IsSetting s kernel) where
  -- the arcs of a view of a matrix of the same edges, as the flags choose them
  chosen : (m : MatrixData) (v : ℕ) (flags : List Bool) → length m.live ≡ length s.graph.now.ends → flags ≡ flags_of m v → IsPermutation (view_arcs (task_over answer s.program.now s.graph.now s.rounds m) v) (arcs_in kernel.rows.by_head flags)
  chosen m v flags size e = subst (λ (bs : List Bool). IsPermutation (view_arcs (task_over answer s.program.now s.graph.now s.rounds m) v) (arcs_in kernel.rows.by_head bs)) (sym e) (view-chosen s.program.now.along s.graph.now kernel.rows m v is.all size)

  back : (m : MatrixData) (v : ℕ) (flags : List Bool) → length m.live ≡ length s.graph.now.ends → flags ≡ flags_of m v → IsPermutation (arcs_in kernel.rows.by_head flags) (view_arcs (task_over answer s.program.now s.graph.now s.rounds m) v)
  back m v flags size e = IsPermutation-sym (view_arcs (task_over answer s.program.now s.graph.now s.rounds m) v) (arcs_in kernel.rows.by_head flags) (chosen m v flags size e)

  -- what is kept of the view is kept of these
  pub history-chosen : (m : MatrixData) (v : ℕ) (flags : List Bool) (h : History) → length m.live ≡ length s.graph.now.ends → flags ≡ flags_of m v
      → IsHistory answer s.program.now s.graph.now (Some (view_arcs (task_over answer s.program.now s.graph.now s.rounds m) v)) (number_of s.rounds) h
      → IsHistory answer s.program.now s.graph.now (Some (arcs_in kernel.rows.by_head flags)) (number_of s.rounds) h
  history-chosen m v flags h size e known =
      history-permuted answer s.program.now s.graph.now (view_arcs (task_over answer s.program.now s.graph.now s.rounds m) v) (arcs_in kernel.rows.by_head flags) (number_of s.rounds) h (chosen m v flags size e) known

  -- a first step
  pub first-chosen : {E : Type 0} (v : ℕ) (flags : List Bool) (r : Result Stepped E) → flags ≡ flags_of s.matrix.now v
      → IfOk r (StepIn answer s None (arcs_in kernel.rows.by_head flags))
      → IfOk r (StepIn answer s None (view_arcs (task_over answer s.program.now s.graph.now s.rounds s.matrix.now) v))
  first-chosen v flags r e made =
      let arcs = view_arcs (task_over answer s.program.now s.graph.now s.rounds s.matrix.now) v in
      ok-so r (StepIn answer s None (arcs_in kernel.rows.by_head flags)) (StepIn answer s None arcs)
      (λ t step. reordered answer s.program.now s.graph.now s.rounds None None (arcs_in kernel.rows.by_head flags) arcs t (back s.matrix.now v flags is.matrix e) tt step) made

  -- a step from a view of one matrix to a view of another
  pub later-chosen : {E : Type 0} (m n : MatrixData) (u v : ℕ) (old new : List Bool) (r : Result Stepped E) → length m.live ≡ length s.graph.now.ends → length n.live ≡ length s.graph.now.ends
      → old ≡ flags_of m u → new ≡ flags_of n v
      → IfOk r (StepIn answer s (Some (arcs_in kernel.rows.by_head old)) (arcs_in kernel.rows.by_head new))
      → IfOk r (StepIn answer s (Some (view_arcs (task_over answer s.program.now s.graph.now s.rounds m) u)) (view_arcs (task_over answer s.program.now s.graph.now s.rounds n) v))
  later-chosen m n u v old new r size_m size_n e d made =
      let before = view_arcs (task_over answer s.program.now s.graph.now s.rounds m) u in
      let arcs = view_arcs (task_over answer s.program.now s.graph.now s.rounds n) v in
      ok-so r (StepIn answer s (Some (arcs_in kernel.rows.by_head old)) (arcs_in kernel.rows.by_head new)) (StepIn answer s (Some before) arcs)
      (λ t step. reordered answer s.program.now s.graph.now s.rounds (Some (arcs_in kernel.rows.by_head old)) (Some before) (arcs_in kernel.rows.by_head new) arcs t (back n v new size_n d) (back m u old size_m e) step) made
