-- What holds of the parts of a run that stay the same, and of the lists that it works on.
use Rattle.std.specs.Prelude.{ℕ, ◌≡◌, ◌<◌, ◌^◌, Bool, IsTrue, List, All, length}
use Rattle.graph_model.specs.declared.value.Val.{Val}
use Rattle.graph_model.specs.GraphData.{GraphData}
use Rattle.vertex_lang.specs.declared.arc.Arc.{Arc}
use Rattle.vertex_lang.specs.declared.mail.Mail.{Mail}
use Rattle.vertex_lang.specs.declared.program.Program.{Program}
use Rattle.vertex_lang.specs.Ignoring.{IgnoresEdge}
use Rattle.vertex_lang.specs.Arcs.{IsArc}
use Rattle.vertex_lang.specs.Leaves.{IsChecked}
use Rattle.vertex_lang.specs.Mail.{HasDegrees}

-- the program fits the graph, the arcs are its, the degrees are those of its nodes, and each has a start
pub record IsSetting (p : Program) (graph : GraphData) (arcs : List Arc) (degrees : List ℕ) (alike : Bool) (starts : List Val) : Type 0 where
  pub checked : IsChecked p graph
  pub are_arcs : All (IsArc graph) arcs
  pub few : length arcs < 2 ^ 32
  pub size : length degrees ≡ length graph.ids
  pub counted : HasDegrees arcs degrees
  pub ignoring : IsTrue alike → IgnoresEdge p.send
  pub started : length starts ≡ length graph.ids

-- there is one entry for each node in each list
pub record HasSizes (graph : GraphData) (values sent : List Val) (mail : List Mail) : Type 0 where
  pub values_size : length values ≡ length graph.ids
  pub sent_size : length sent ≡ length graph.ids
  pub mail_size : length mail ≡ length graph.ids
