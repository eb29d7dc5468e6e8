-- What a step is given, and what it gives.
use Rattle.std.specs.Prelude.{◌≡◌, ◌<◌, ◌≤◌, List, length, All, Some, None}
use Rattle.vertex_lang.specs.declared.arc.Arc.{Arc}
use Rattle.vertex_lang.specs.Expressions.{Answer}
use Rattle.vertex_lang.specs.Leaves.{IsChecked}
use Rattle.vertex_lang.specs.Lone.{answer_of, number_of}
use Rattle.vertex_lang.specs.Rounds.{lone}
use Rattle.lone_work.specs.Work.{work}
use Rattle.change_lists.specs.ChangeLists.{all_from, changes_from}
use Rattle.arc_rows.specs.Views.{arcs_in, TellsAll}
use Rattle.round_kernel.specs.declared.kernel.Kernel.{Kernel}
use Rattle.round_kernel.specs.declared.plan.Behind.{Behind}
use Rattle.round_kernel.specs.declared.plan.Plan.{Plan}
use Rattle.round_kernel.specs.declared.ended.Ended.{Ended}
use Rattle.round_kernel.specs.declared.step.Stepped.{Stepped}
use Rattle.round_kernel.specs.Histories.{IsHistory}
use Rattle.round_kernel.specs.Kernels.{IsKernel}

-- the program was checked over the graph of the kernel, and so many rounds are allowed
pub record MayRun (plan : Plan) (k : Kernel) : Type 0 where
  pub checked : IsChecked plan.program.now plan.graph.now
  pub kernel : IsKernel plan.graph.now k
  pub some : 1 ≤ number_of plan.rounds
  pub limit : number_of plan.rounds ≤ 1_000_000

-- there is a flag for each edge, all that are in one of the two views alone are told, and the history is that of the view before
pub record IsBehind (answer : Answer) (plan : Plan) (k : Kernel) (b : Behind) : Type 0 where
  pub old : length b.old.now ≡ length plan.graph.now.ends
  pub new : length b.new.now ≡ length plan.graph.now.ends
  pub turned : All (λ e. e.0 < length plan.graph.now.ends) b.turned.now
  pub all_turned : TellsAll b.old.now b.new.now b.turned.now
  pub history : IsHistory answer plan.program.now plan.graph.now (Some (arcs_in k.rows.by_head b.old.now)) (number_of plan.rounds) b.history.now

-- what a step gives of a view with these arcs that none stands before
pub record IsFirst (answer : Answer) (plan : Plan) (arcs : List Arc) (s : Stepped) : Type 0 where
  pub history : IsHistory answer plan.program.now plan.graph.now (Some arcs) (number_of plan.rounds) s.history
  pub outcome : s.outcome ≡ (answer_of answer plan.program.now plan.graph.now arcs plan.rounds).outcome
  pub change : s.change ≡ all_from 0 (lone answer plan.program.now plan.graph.now arcs (number_of plan.rounds))
  pub work_is : s.work ≡ work answer plan.program.now plan.graph.now arcs None (number_of plan.rounds)

-- and of one behind a view with those of `old`
pub record IsNext (answer : Answer) (plan : Plan) (old new : List Arc) (s : Stepped) : Type 0 where
  pub history : IsHistory answer plan.program.now plan.graph.now (Some new) (number_of plan.rounds) s.history
  pub outcome : s.outcome ≡ (answer_of answer plan.program.now plan.graph.now new plan.rounds).outcome
  pub change : s.change ≡ changes_from 0 (lone answer plan.program.now plan.graph.now old (number_of plan.rounds)) (lone answer plan.program.now plan.graph.now new (number_of plan.rounds))
  pub work_is : s.work ≡ work answer plan.program.now plan.graph.now new (Some old) (number_of plan.rounds)

-- ---- where no view comes behind

-- the same of a view that none stands before and none comes behind: all but the history
pub record IsOnly (answer : Answer) (plan : Plan) (arcs : List Arc) (s : Ended) : Type 0 where
  pub outcome : s.outcome ≡ (answer_of answer plan.program.now plan.graph.now arcs plan.rounds).outcome
  pub change : s.change ≡ all_from 0 (lone answer plan.program.now plan.graph.now arcs (number_of plan.rounds))
  pub work_is : s.work ≡ work answer plan.program.now plan.graph.now arcs None (number_of plan.rounds)

-- and of one behind a view with those of `old`
pub record IsLast (answer : Answer) (plan : Plan) (old new : List Arc) (s : Ended) : Type 0 where
  pub outcome : s.outcome ≡ (answer_of answer plan.program.now plan.graph.now new plan.rounds).outcome
  pub change : s.change ≡ changes_from 0 (lone answer plan.program.now plan.graph.now old (number_of plan.rounds)) (lone answer plan.program.now plan.graph.now new (number_of plan.rounds))
  pub work_is : s.work ≡ work answer plan.program.now plan.graph.now new (Some old) (number_of plan.rounds)
