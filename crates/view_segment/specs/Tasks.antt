-- What a run of a program on views asks for, and the work of views one after the other.
use Rattle.std.specs.Prelude.{ℕ, List, [], ◌∷◌, Option, Some, None}
use Rattle.graph_model.specs.declared.number.EdgeNo.{EdgeNo}
use Rattle.graph_model.specs.GraphData.{GraphData}
use Rattle.vertex_lang.specs.declared.arc.Arc.{Arc}
use Rattle.vertex_lang.specs.declared.program.Program.{Program}
use Rattle.vertex_lang.specs.declared.lone.Rounds.{Rounds}
use Rattle.vertex_lang.specs.declared.lone.Lone.{Lone}
use Rattle.vertex_lang.specs.Arcs.{arcs_between}
use Rattle.vertex_lang.specs.Expressions.{Answer}
use Rattle.vertex_lang.specs.Lone.{number_of, answer_of}
use Rattle.lone_work.specs.Work.{work}
use Rattle.view_matrix.specs.Matrices.{MatrixData, edges_in}

-- a program with what an updater answers for it, the graph, the rounds, and the edges of each view by its number
pub record Task : Type 0 where
  pub answer : Answer
  pub program : Program
  pub graph : GraphData
  pub rounds : Rounds
  pub edges : ℕ → List EdgeNo

-- over the views of a matrix
abbrev pub task_over : Answer → Program → GraphData → Rounds → MatrixData → Task
task_over answer program graph rounds m = record { answer = answer; program = program; graph = graph; rounds = rounds; edges = edges_in m }

-- the arcs of a view
abbrev pub view_arcs : Task → ℕ → List Arc
view_arcs task v = arcs_between task.program.along task.graph (task.edges v)

-- of a view that may be none
abbrev pub arcs_before : Task → Option ℕ → Option (List Arc)
arcs_before task None = None
arcs_before task (Some v) = Some (view_arcs task v)

-- the answer of the program alone on the view
abbrev pub lone_of : Task → ℕ → Lone
lone_of task v = answer_of task.answer task.program task.graph (view_arcs task v) task.rounds

-- the work of a view behind another one, or behind none
abbrev pub work_of : Task → Option ℕ → ℕ → ℕ
work_of task before v = work task.answer task.program task.graph (view_arcs task v) (arcs_before task before) (number_of task.rounds)

-- the works of these views, each behind the one before it
abbrev pub works_from : Task → Option ℕ → List ℕ → List ℕ
works_from task before [] = []
works_from task before (v ∷ vs) = work_of task before v ∷ works_from task (Some v) vs

-- the first of them behind none
abbrev pub works_of : Task → List ℕ → List ℕ
works_of task views = works_from task None views
