-- What the kernel gives of the arcs that the flags choose, it gives of the views.
use Rattle.std.proofs.Common.{◌≡◌, ◌∙◌, ℕ, Bool, List, Some, None, sym, ap, subst}
use Rattle.std.specs.List.Sorted.{IsPermutation}
use Rattle.std.proofs.lemmas.List.Sorted.{IsPermutation-sym}
use Rattle.graph_model.specs.declared.value.Val.{Val}
use Rattle.vertex_lang.specs.declared.lone.Lone.{Lone}
use Rattle.vertex_lang.specs.AnswerLaws.{answer_permuted}
use Rattle.vertex_lang.specs.Expressions.{Answer}
use Rattle.vertex_lang.specs.Lone.{number_of, answer_of}
use Rattle.vertex_lang.specs.RoundLaws.{permuted-arcs}
use Rattle.vertex_lang.specs.Rounds.{lone}
use Rattle.lone_work.specs.Work.{work}
use Rattle.change_lists.specs.declared.history.History.{History}
use Rattle.round_kernel.specs.declared.kernel.Kernel.{Kernel}
use Rattle.round_kernel.specs.declared.ended.Ended.{Ended}
use Rattle.round_kernel.specs.Histories.{IsHistory}
use Rattle.change_lists.specs.ChangeLists.{changes_from, all_from}
use Rattle.arc_rows.specs.Views.{arcs_in}
use Rattle.view_segment.specs.declared.step.Setting.{Setting}
use Rattle.view_segment.specs.Steps.{flags_of, IsSetting, IsStep, task_in}
use Rattle.view_segment.specs.Tasks.{view_arcs}
use Rattle.view_segment.proofs.Choosing.{view-chosen}
use Rattle.view_segment.proofs.Transport.{history-permuted, work-permuted}

module _ (answer : Answer) (s : Setting) (kernel : Kernel) (is : IsSetting s kernel) where
  -- the arcs of the view, in another order
  pub same-arcs : (v : ℕ) (flags : List Bool) → flags ≡ flags_of s.matrix.now v → IsPermutation (view_arcs (task_in answer s) v) (arcs_in kernel.rows.by_head flags)
  same-arcs v flags e = subst (λ (bs : List Bool). IsPermutation (view_arcs (task_in answer s) v) (arcs_in kernel.rows.by_head bs)) (sym e) (view-chosen s.plan.program.now.along s.plan.graph.now kernel.rows s.matrix.now v is.along is.matrix)

  pub history-before : (v : ℕ) (flags : List Bool) (h : History) → flags ≡ flags_of s.matrix.now v → IsHistory answer s.plan.program.now s.plan.graph.now (Some (view_arcs (task_in answer s) v)) (number_of s.plan.rounds) h
      → IsHistory answer s.plan.program.now s.plan.graph.now (Some (arcs_in kernel.rows.by_head flags)) (number_of s.plan.rounds) h
  history-before v flags h e known = history-permuted answer s.plan.program.now s.plan.graph.now (view_arcs (task_in answer s) v) (arcs_in kernel.rows.by_head flags) (number_of s.plan.rounds) h (same-arcs v flags e) known

  -- and the other way round
  pub history-behind : (v : ℕ) (flags : List Bool) (h : History) → flags ≡ flags_of s.matrix.now v → IsHistory answer s.plan.program.now s.plan.graph.now (Some (arcs_in kernel.rows.by_head flags)) (number_of s.plan.rounds) h
      → IsHistory answer s.plan.program.now s.plan.graph.now (Some (view_arcs (task_in answer s) v)) (number_of s.plan.rounds) h
  history-behind v flags h e known = history-permuted answer s.plan.program.now s.plan.graph.now (arcs_in kernel.rows.by_head flags) (view_arcs (task_in answer s) v) (number_of s.plan.rounds) h
      (IsPermutation-sym (view_arcs (task_in answer s) v) (arcs_in kernel.rows.by_head flags) (same-arcs v flags e)) known

  module _ (v : ℕ) (flags : List Bool) (e : flags ≡ flags_of s.matrix.now v) (t : Ended)
      (outcome : t.outcome ≡ (answer_of answer s.plan.program.now s.plan.graph.now (arcs_in kernel.rows.by_head flags) s.plan.rounds).outcome) where
    back : IsPermutation (arcs_in kernel.rows.by_head flags) (view_arcs (task_in answer s) v)
    back = IsPermutation-sym (view_arcs (task_in answer s) v) (arcs_in kernel.rows.by_head flags) (same-arcs v flags e)

    values-are : lone answer s.plan.program.now s.plan.graph.now (arcs_in kernel.rows.by_head flags) (number_of s.plan.rounds) ≡ lone answer s.plan.program.now s.plan.graph.now (view_arcs (task_in answer s) v) (number_of s.plan.rounds)
    values-are = permuted-arcs answer s.plan.program.now s.plan.graph.now (arcs_in kernel.rows.by_head flags) (view_arcs (task_in answer s) v) (number_of s.plan.rounds) back

    outcome-is : t.outcome ≡ (answer_of answer s.plan.program.now s.plan.graph.now (view_arcs (task_in answer s) v) s.plan.rounds).outcome
    outcome-is = outcome ∙ ap (λ (l : Lone). l.outcome) (answer_permuted answer s.plan.program.now s.plan.graph.now (arcs_in kernel.rows.by_head flags) (view_arcs (task_in answer s) v) s.plan.rounds back)

    pub first-given : t.change ≡ all_from 0 (lone answer s.plan.program.now s.plan.graph.now (arcs_in kernel.rows.by_head flags) (number_of s.plan.rounds))
        → t.work ≡ work answer s.plan.program.now s.plan.graph.now (arcs_in kernel.rows.by_head flags) None (number_of s.plan.rounds)
        → IsStep (task_in answer s) None v t
    first-given change works = record {
      outcome = outcome-is;
      change = change ∙ ap (λ (vs : List Val). all_from 0 vs) values-are;
      work = works ∙ work-permuted answer s.plan.program.now s.plan.graph.now (arcs_in kernel.rows.by_head flags) (view_arcs (task_in answer s) v) None None (number_of s.plan.rounds) back tt;
    }

    pub later-given : (u : ℕ) (old : List Bool) → old ≡ flags_of s.matrix.now u
        → t.change ≡ changes_from 0 (lone answer s.plan.program.now s.plan.graph.now (arcs_in kernel.rows.by_head old) (number_of s.plan.rounds)) (lone answer s.plan.program.now s.plan.graph.now (arcs_in kernel.rows.by_head flags) (number_of s.plan.rounds))
        → t.work ≡ work answer s.plan.program.now s.plan.graph.now (arcs_in kernel.rows.by_head flags) (Some (arcs_in kernel.rows.by_head old)) (number_of s.plan.rounds)
        → IsStep (task_in answer s) (Some u) v t
    later-given u old d change works =
        let before = view_arcs (task_in answer s) u in
        let olds = arcs_in kernel.rows.by_head old in
        let swap = IsPermutation-sym before olds (same-arcs u old d) in
        let old_values = permuted-arcs answer s.plan.program.now s.plan.graph.now olds before (number_of s.plan.rounds) swap in
        record {
          outcome = outcome-is;
          change = change ∙ ap (λ (vs : List Val). changes_from 0 vs (lone answer s.plan.program.now s.plan.graph.now (arcs_in kernel.rows.by_head flags) (number_of s.plan.rounds))) old_values ∙ ap (λ (vs : List Val). changes_from 0 (lone answer s.plan.program.now s.plan.graph.now before (number_of s.plan.rounds)) vs) values-are;
          work = works ∙ work-permuted answer s.plan.program.now s.plan.graph.now (arcs_in kernel.rows.by_head flags) (view_arcs (task_in answer s) v) (Some olds) (Some before) (number_of s.plan.rounds) back swap;
        }
