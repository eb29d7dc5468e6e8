-- What an engine over versions holds.
use Rattle.std.specs.Prelude.{◌≡◌, ◌≤◌, ◌*◌, ℕ, ⊤, List, length, map, All, Option, Some, None}
use Rattle.graph_model.specs.declared.number.ViewNo.{ViewNo}
use Rattle.graph_model.specs.GraphData.{GraphData}
use Rattle.vertex_lang.specs.declared.program.Along.{Along}
use Rattle.vertex_lang.specs.Expressions.{Answer}
use Rattle.vertex_lang.specs.Leaves.{IsChecked}
use Rattle.vertex_lang.specs.Lone.{number_of}
use Rattle.round_kernel.specs.declared.kernel.Kernel.{Kernel}
use Rattle.round_kernel.specs.Kernels.{IsKernel}
use Rattle.arc_rows.specs.RowLists.{AreOfAll}
use Rattle.view_matrix.specs.Matrices.{MatrixData, IsView}
use Rattle.view_segment.specs.Tasks.{Task, task_over}
use Rattle.view_versions.specs.declared.engine.VersionEngine.{VersionEngine}
use Rattle.view_versions.specs.Runs.{HoldsRun, IsSound}

-- the task of an engine over the views of a matrix
abbrev pub task_of : Answer → MatrixData → VersionEngine → Task
task_of answer m e = task_over answer e.program.now e.graph.now e.rounds m

-- the views that were run, in their order
abbrev pub views_run : VersionEngine → List ViewNo
views_run e = map (λ run. run.view) e.runs.items

-- what so many views cost at most where each is run from anew
abbrev pub most_works : VersionEngine → ℕ → ℕ
most_works e views = views * (length e.graph.now.ids * number_of e.rounds)

-- the kernel, if there is one, is of the graph in this direction
abbrev pub IsKernelOf : GraphData → Along → Option Kernel → Type 0
IsKernelOf graph along None = ⊤
IsKernelOf graph along (Some kernel) = IsKernel graph kernel × AreOfAll along graph kernel.rows

-- An engine stands for a matrix: each view of its order was run, and what is kept of each is its plain run over the edges that the
-- matrix has in it.
pub record Stands (answer : Answer) (m : MatrixData) (e : VersionEngine) : Type 0 where
  pub matrix : length m.live ≡ length e.graph.now.ends
  pub views : All (IsView m) e.order
  pub all : views_run e ≡ e.order
  pub holds : All (HoldsRun (task_of answer m e)) e.runs.items

-- what holds of each engine, whatever it stands for
pub record IsEngine (e : VersionEngine) : Type 0 where
  pub checked : IsChecked e.program.now e.graph.now
  pub some : 1 ≤ number_of e.rounds
  pub limit : number_of e.rounds ≤ 1_000_000
  pub ready : IsKernelOf e.graph.now e.program.now.along e.kernel
  pub sound : All (λ run. IsSound e.program.now e.graph.now (number_of e.rounds) run.history) e.runs.items

-- it is another state of the same run
pub record IsSameRun (old new : VersionEngine) : Type 0 where
  pub graph : new.graph ≡ old.graph
  pub program : new.program ≡ old.program
  pub rounds : new.rounds ≡ old.rounds
