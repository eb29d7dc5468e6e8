-- A round of a view, as the code keeps it: which edges are in the view, how many arcs leave each node, and the values.
use Rattle.std.specs.Prelude.{◌≡◌, ◌<◌, ◌+◌, ◌⊎◌, ℕ, Bool, List, length, get_or}
use Rattle.graph_model.specs.declared.value.Val.{Val}
use Rattle.graph_model.specs.GraphData.{GraphData}
use Rattle.vertex_lang.specs.declared.arc.Arc.{Arc}
use Rattle.vertex_lang.specs.declared.program.Program.{Program}
use Rattle.vertex_lang.specs.Arcs.{outdeg}
use Rattle.vertex_lang.specs.Expressions.{Answer}
use Rattle.vertex_lang.specs.Rounds.{lone}
use Rattle.vertex_lang.specs.Lone.{same_value}
use Rattle.vertex_lang.specs.Ignoring.{IgnoresOutdeg}
use Rattle.multisets.specs.Multisets.{often}
use Rattle.arc_rows.specs.Views.{arcs_in}
use Rattle.round_messages.specs.Sides.{IsSized}

-- as many arcs of the view leave each node; where the message doesn't depend on it they aren't counted
abbrev pub AreDegrees : Program → GraphData → List Arc → List ℕ → Type 0
AreDegrees p graph arcs degrees = IgnoresOutdeg p.send ⊎ ((u : ℕ) → u < length graph.ids → get_or degrees u 0 ≡ outdeg arcs u)

-- they are those of a round of the plain run
pub record IsRound (answer : Answer) (p : Program) (graph : GraphData) (all : List Arc) (edges : List Bool) (degrees : List ℕ) (values : List Val) (r : ℕ) : Type 0 where
  pub sized : IsSized graph edges degrees values
  pub degrees_are : AreDegrees p graph (arcs_in all edges) degrees
  pub values_are : values ≡ lone answer p graph (arcs_in all edges) r

-- of two lists the same messages are taken away
pub record AreLeft (first second all more : List Val) : Type 0 where
  pub counts : (x : Val) → often same_value x first + often same_value x more ≡ often same_value x second + often same_value x all
