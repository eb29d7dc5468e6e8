-- What a step is given, and what it gives.
use Rattle.std.specs.Prelude.{◌≡◌, ℕ, Bool, false, not, List, length, map, get_or, slice_set, Option}
use Rattle.std.specs.List.{range_with_len}
use Rattle.graph_model.specs.declared.number.EdgeNo.{EdgeNo}
use Rattle.vertex_lang.specs.Expressions.{Answer}
use Rattle.round_kernel.specs.declared.kernel.Kernel.{Kernel}
use Rattle.round_kernel.specs.declared.plan.Plan.{Plan}
use Rattle.round_kernel.specs.declared.ended.Ended.{Ended}
use Rattle.round_kernel.specs.Plans.{MayRun}
use Rattle.arc_rows.specs.RowLists.{AreOfAll}
use Rattle.view_matrix.specs.Matrices.{MatrixData, bit_of}
use Rattle.view_segment.specs.declared.step.Setting.{Setting}
use Rattle.view_segment.specs.Segments.{change_of}
use Rattle.view_segment.specs.Tasks.{Task, task_over, lone_of, work_of}

-- of each edge whether it stands in the view
abbrev pub flags_of : MatrixData → ℕ → List Bool
flags_of m v = map (λ e. bit_of m e v) (range_with_len 0 (length m.live))

-- flags with that of an edge turned
abbrev pub with_turned : List Bool → EdgeNo → List Bool
with_turned flags e = slice_set flags e.0 (not (get_or flags e.0 false))

pub record IsSetting (s : Setting) (k : Kernel) : Type 0 where
  pub plan : MayRun s.plan k
  pub along : AreOfAll s.plan.program.now.along s.plan.graph.now k.rows
  pub matrix : length s.matrix.now.live ≡ length s.plan.graph.now.ends

-- the task of a plan over the views of a matrix
abbrev pub task_of : Answer → Plan → MatrixData → Task
task_of answer plan m = task_over answer plan.program.now plan.graph.now plan.rounds m

abbrev pub task_in : Answer → Setting → Task
task_in answer s = task_of answer s.plan s.matrix.now

-- what a step gives of a view behind another one, or behind none
pub record IsStep (task : Task) (before : Option ℕ) (v : ℕ) (s : Ended) : Type 0 where
  pub outcome : s.outcome ≡ (lone_of task v).outcome
  pub change : s.change ≡ change_of task before v
  pub work : s.work ≡ work_of task before v
