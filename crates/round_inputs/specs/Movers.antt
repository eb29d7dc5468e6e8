-- Which nodes may send something else in two rounds.
use Rattle.std.specs.Prelude.{◌≡◌, ◌==◌, ◌<◌, ◌-◌, ℕ, Bool, false, List, length, get_or}
use Rattle.graph_model.specs.declared.value.Val.{Val}
use Rattle.graph_model.specs.GraphData.{GraphData}
use Rattle.vertex_lang.specs.declared.arc.Arc.{Arc}
use Rattle.vertex_lang.specs.declared.program.Program.{Program}
use Rattle.vertex_lang.specs.Arcs.{outdeg}
use Rattle.vertex_lang.specs.Expressions.{Answer, sent_by}
use Rattle.vertex_lang.specs.Rounds.{value_at, lone}
use Rattle.round_inputs.specs.declared.movers.Movers.{Movers}
use Rattle.round_inputs.specs.declared.movers.Movers.TheVariants as movers

-- the message of a node along an edge in a round of the plain run over these arcs
abbrev pub sent_in : Answer → Program → GraphData → List Arc → ℕ → ℕ → ℕ → Val
sent_in answer p graph arcs r u e = sent_by p graph u (value_at (lone answer p graph arcs r) u) (outdeg arcs u) e

-- a node may send something else in the one of two rounds than in the other
abbrev pub moves : Movers → ℕ → Bool
moves (movers.Views apart) u = get_or apart.now u false
moves (movers.Rounds moved s) u = get_or moved.now u 0 == s

-- there is something told of the node
abbrev pub InMovers : Movers → ℕ → Type 0
InMovers (movers.Views apart) u = u < length apart.now
InMovers (movers.Rounds moved s) u = u < length moved.now

-- the others send the same, along each edge
abbrev pub AreStill : Program → GraphData → Movers → List ℕ → List Val → List ℕ → List Val → Type 0
AreStill p graph movers degrees values counts others = (u e : ℕ) → u < length graph.ids → moves movers u ≡ false
    → sent_by p graph u (value_at values u) (get_or degrees u 0) e ≡ sent_by p graph u (value_at others u) (get_or counts u 0) e
