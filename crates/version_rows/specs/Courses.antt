-- What an engine over versions is driven through.
use Rattle.std.specs.Prelude.{◌≡◌, ◌≤◌, ℕ, false, length, All}
use Rattle.graph_model.specs.GraphData.{GraphData}
use Rattle.vertex_lang.specs.declared.program.Program.{Program}
use Rattle.vertex_lang.specs.Expressions.{Answer}
use Rattle.vertex_lang.specs.Leaves.{IsChecked}
use Rattle.view_matrix.specs.Matrices.{MatrixData, IsView}
use Rattle.view_versions.specs.declared.engine.VersionEngine.{VersionEngine}
use Rattle.view_versions.specs.Engines.{IsEngine, Stands}

-- a program that fits a graph is run for so many rounds
pub record IsScene (p : Program) (graph : GraphData) (rounds : ℕ) : Type 0 where
  pub checked : IsChecked p graph
  pub some : 1 ≤ rounds
  pub limit : rounds ≤ 1_000_000

-- an engine that isn't spent stands for a matrix of the edges of a graph
pub record IsCourse (answer : Answer) (graph : GraphData) (m : MatrixData) (e : VersionEngine) : Type 0 where
  pub size : length m.live ≡ length graph.ends
  pub views : All (IsView m) e.order
  pub fresh : e.spent ≡ false
  pub engine : IsEngine e
  pub stands : Stands answer m e
