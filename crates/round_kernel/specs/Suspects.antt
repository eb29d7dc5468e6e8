-- Which nodes may send something else in two rounds.
use Rattle.std.specs.Prelude.{◌≡◌, ◌≢◌, ◌<◌, ◌-◌, ◌%◌, ℕ, Bool, false, List, length, get_or}
use Rattle.graph_model.specs.GraphData.{GraphData}
use Rattle.vertex_lang.specs.declared.arc.Arc.{Arc}
use Rattle.vertex_lang.specs.declared.program.Program.{Program}
use Rattle.vertex_lang.specs.Expressions.{Answer}
use Rattle.vertex_lang.specs.Rounds.{value_at, lone}
use Rattle.round_kernel.specs.declared.frame.Frame.{Frame}
use Rattle.round_kernel.specs.declared.suspects.Suspects.{Suspects}
use Rattle.arc_rows.specs.Views.{arcs_in}
use Rattle.arc_rows.specs.TurnedArcs.{TellTurned}
use Rattle.round_inputs.specs.Movers.{sent_in}

-- what is kept of the number of a round
abbrev pub stamp : ℕ → ℕ
stamp r = r % 256

-- a node that isn't told apart sends the same in both views; one whose stamp isn't that of the round has the value of the round before;
-- and the arcs that are turned are told
pub record AreSuspects (answer : Answer) (p : Program) (graph : GraphData) (all : List Arc) (first : Bool) (old new : List Bool) (r : ℕ) (suspects : Suspects) : Type 0 where
  pub apart_size : length suspects.apart.items ≡ length graph.ids
  pub moved_size : length suspects.moved.items ≡ length graph.ids
  pub apart : first ≡ false → (u e : ℕ) → u < length graph.ids → get_or suspects.apart.items u false ≡ false → sent_in answer p graph (arcs_in all new) r u e ≡ sent_in answer p graph (arcs_in all old) r u e
  pub moved : 0 < r → (u : ℕ) → u < length graph.ids → get_or suspects.moved.items u 0 ≢ stamp r → value_at (lone answer p graph (arcs_in all new) r) u ≡ value_at (lone answer p graph (arcs_in all new) (r - 1)) u
  pub turned : TellTurned (λ a. a.head.0) graph all first old new suspects.turned

-- the same of a step
abbrev pub StandSuspects : Answer → Frame → ℕ → Suspects → Type 0
StandSuspects answer f r suspects = AreSuspects answer f.program.now f.graph.now f.rows.now.by_head f.first f.old.now f.new.now r suspects
