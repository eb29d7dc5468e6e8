-- What is kept of a view that was run, and what a step gives.
use Rattle.std.specs.Prelude.{◌≡◌, ◌<◌, ◌≤◌, ℕ, Bool, List, [], length, get_or, All, Option, Some, IfSome}
use Rattle.graph_model.specs.declared.number.EdgeNo.{EdgeNo}
use Rattle.graph_model.specs.GraphData.{GraphData}
use Rattle.vertex_lang.specs.declared.arc.Arc.{Arc}
use Rattle.vertex_lang.specs.declared.lone.Rounds.{Rounds}
use Rattle.vertex_lang.specs.declared.program.Program.{Program}
use Rattle.vertex_lang.specs.Expressions.{Answer}
use Rattle.vertex_lang.specs.Leaves.{IsChecked}
use Rattle.vertex_lang.specs.Lone.{number_of, answer_of}
use Rattle.lone_work.specs.Work.{work}
use Rattle.change_lists.specs.declared.history.History.{History}
use Rattle.arc_rows.specs.RowLists.{AreOfAll}
use Rattle.round_kernel.specs.declared.kernel.Kernel.{Kernel}
use Rattle.round_kernel.specs.declared.step.Stepped.{Stepped}
use Rattle.round_kernel.specs.Histories.{IsHistory, AreStarts}
use Rattle.round_kernel.specs.Kernels.{IsKernel}
use Rattle.view_segment.specs.Tasks.{Task, task_over, view_arcs, lone_of}
use Rattle.view_versions.specs.declared.run.ViewRun.{ViewRun}
use Rattle.view_versions.specs.declared.step.Setting.{Setting}
use Rattle.view_versions.specs.Edits.{taken_back}

-- what is kept of a view is its plain run on the edges of the task, round by round, and how it ended
pub record HoldsRun (task : Task) (run : ViewRun) : Type 0 where
  pub history : IsHistory task.answer task.program task.graph (Some (view_arcs task run.view.0)) (number_of task.rounds) run.history
  pub outcome : run.outcome ≡ (lone_of task run.view.0).outcome

-- a history, whatever run it is of: its changes in the rounds below a number are of nodes of the graph, and its starts are those of
-- the program
pub record IsSound (p : Program) (graph : GraphData) (rounds : ℕ) (h : History) : Type 0 where
  pub within : (k : ℕ) → k < rounds → All (λ c. c.node.0 < length graph.ids) (get_or h.changes k [])
  pub starts : IfSome h.starts (λ s. AreStarts p graph s.value)

-- ---- a step

pub record IsSetting (s : Setting) (k : Kernel) : Type 0 where
  pub checked : IsChecked s.program.now s.graph.now
  pub some : 1 ≤ number_of s.rounds
  pub limit : number_of s.rounds ≤ 1_000_000
  pub kernel : IsKernel s.graph.now k
  pub all : AreOfAll s.program.now.along s.graph.now k.rows
  pub matrix : length s.matrix.now.live ≡ length s.graph.now.ends

-- the task over the matrix of a setting, and over that with these changes taken back
abbrev pub task_in : Answer → Setting → Task
task_in answer s = task_over answer s.program.now s.graph.now s.rounds s.matrix.now

abbrev pub task_before : Answer → Setting → List (EdgeNo × Bool) → Task
task_before answer s changes = task_over answer s.program.now s.graph.now s.rounds (taken_back s.matrix.now changes)

-- a step gives the plain run over these arcs, with the work that it costs behind that over others, or behind none
pub record IsStepOf (answer : Answer) (p : Program) (graph : GraphData) (rounds : Rounds) (before : Option (List Arc)) (arcs : List Arc) (s : Stepped) : Type 0 where
  pub history : IsHistory answer p graph (Some arcs) (number_of rounds) s.history
  pub outcome : s.outcome ≡ (answer_of answer p graph arcs rounds).outcome
  pub work_is : s.work ≡ work answer p graph arcs before (number_of rounds)

abbrev pub StepIn : Answer → Setting → Option (List Arc) → List Arc → Stepped → Type 0
StepIn answer s before arcs made = IsStepOf answer s.program.now s.graph.now s.rounds before arcs made
