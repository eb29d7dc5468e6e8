-- The laws, each as one statement.
use Rattle.std.specs.Prelude.{◌≡◌, ℕ, ◌+◌, ◌<◌, ◌^◌, List, [], ◌∷◌, length}
use Rattle.std.specs.declared.cmp.Ordering.{Ordering}
use Rattle.std.specs.declared.cmp.Ordering.TheVariants.{Equal}
use Rattle.std.specs.Cmp.{IsTotalOrder}
use Rattle.weighted.specs.Normal.{normal}
use Rattle.graph_model.specs.declared.value.Val.{Val}
use Rattle.graph_model.specs.ValueOrder.{order_of}
use Rattle.graph_model.specs.GraphData.{GraphData, node}
use Rattle.vertex_lang.specs.declared.arc.Arc.{Arc}
use Rattle.vertex_lang.specs.declared.program.Program.{Program}
use Rattle.vertex_lang.specs.Expressions.{Answer}
use Rattle.vertex_lang.specs.Rounds.{value_at, lone}
use Rattle.lone_work.specs.Inputs.{input}
use Rattle.work_theory.specs.Once.{once}
use Rattle.vertex_items.specs.declared.item.NodeItem.{NodeItem}
use Rattle.vertex_items.specs.declared.item.NodeItem.TheVariants.{Start, Own, Message}
use Rattle.vertex_items.specs.Names.{named}
use Rattle.vertex_items.specs.Given.{node_gives}

-- an order of items: total, it tells items apart, and each kind stands in the order of values
pub record IsItemOrder (icmp : NodeItem → NodeItem → Ordering) : Type 0 where
  pub total : IsTotalOrder icmp
  pub same : (x y : NodeItem) → icmp x y ≡ Equal → x ≡ y
  pub starts : (a b : Val) → icmp (Start a) (Start b) ≡ order_of a b
  pub owns : (a b : Val) → icmp (Own a) (Own b) ≡ order_of a b
  pub messages : (a b : Val) → icmp (Message a) (Message b) ≡ order_of a b

-- under the items of its input in a round, each once, a node gives its value in the next round, once
abbrev pub InputGivesNext : Type 0
InputGivesNext = (icmp : NodeItem → NodeItem → Ordering) → IsItemOrder icmp
    → (answer : Answer) (p : Program) (graph : GraphData) (arcs : List Arc) (v r : ℕ) → v < length graph.ids → length arcs < 2 ^ 32
    → node_gives answer p graph (node v) (normal icmp (once named (input answer p graph arcs v r))) ≡ (value_at (lone answer p graph arcs (r + 1)) v, 1) ∷ []
