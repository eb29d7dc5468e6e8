-- What is kept of the arcs of a view and of the values of a round, so that a node's messages are found fast.
use Rattle.std.specs.Prelude.{◌≡◌, ◌<◌, ⊤, ℕ, ℤ, Bool, true, List, length, IfSome}
use Rattle.graph_model.specs.GraphData.{GraphData}
use Rattle.vertex_lang.specs.declared.arc.Arc.{Arc}
use Rattle.vertex_lang.specs.declared.program.Program.{Program}
use Rattle.vertex_lang.specs.Expressions.{Answer}
use Rattle.vertex_lang.specs.Rounds.{value_at, lone}
use Rattle.round_inputs.specs.declared.source.MessageSource.{MessageSource}
use Rattle.arc_rows.specs.Listings.{AreTails, AreLinks}
use Rattle.message_forms.specs.Codes.{number_at}
use Rattle.message_forms.specs.Forms.{IsStep, MayKeep}
use Rattle.arc_rows.specs.Views.{arcs_in}
use Rattle.round_inputs.specs.declared.source.MessageSource.TheVariants as sources

module _ (answer : Answer) (p : Program) (graph : GraphData) (all : List Arc) (edges : List Bool) (r : ℕ) where
  -- the numbers are those of the values of the round, and the message is the value and a property of the edge added
  pub record HasValues (column : ℕ) (numbers : List ℤ) : Type 0 where
    pub step : IsStep p column
    pub size : length numbers ≡ length graph.ids
    pub each : (u : ℕ) → u < length graph.ids → number_at numbers u ≡ value_at (lone answer p graph (arcs_in all edges) r) u

abbrev pub IsSource : Answer → Program → GraphData → List Arc → List Bool → ℕ → MessageSource → Type 0
IsSource answer p graph all edges r (sources.Messages live) = MayKeep true p graph × IfSome live (AreTails graph all edges)
IsSource answer p graph all edges r (sources.Steps column numbers live) = HasValues answer p graph all edges r column numbers.items × IfSome live (AreLinks graph all edges column)
IsSource answer p graph all edges r sources.Nothing = ⊤
