-- What a run in phases may be made of.
use Rattle.std.specs.Prelude.{ℕ, ◌≤◌}
use Rattle.graph_model.specs.GraphData.{GraphData}
use Rattle.vertex_lang.specs.declared.program.Program.{Program}
use Rattle.vertex_lang.specs.Leaves.{IsChecked}

-- a program that fits a graph, and numbers of rounds and phases
pub record IsFitting (p : Program) (graph : GraphData) (rounds phases : ℕ) : Type 0 where
  pub checked : IsChecked p graph
  pub some : 1 ≤ rounds
  pub limit : rounds ≤ 1_000_000
  pub begun : 1 ≤ phases
  pub few : phases ≤ 1_000
