-- What a node gives under the words that it has: the starts, values and messages that it gets, each with a weight.
use Rattle.std.specs.Prelude.{ℕ, ◌==◌, nat_lt, List, [], ◌∷◌, length, sum_by, Option, Some, None, if◌then◌else◌}
use Rattle.graph_model.specs.declared.value.Val.{Val}
use Rattle.graph_model.specs.declared.value.Val.TheVariants.{Nil, Num}
use Rattle.graph_model.specs.declared.number.NodeNo.{NodeNo}
use Rattle.graph_model.specs.GraphData.{GraphData, id_of}
use Rattle.vertex_lang.specs.declared.program.Program.{Program}
use Rattle.vertex_lang.specs.Arcs.{gathered_of, repeated}
use Rattle.vertex_lang.specs.Expressions.{Answer}
use Rattle.flow_core.specs.Expanded.{expanded}
use Rattle.vertex_items.specs.declared.item.NodeItem.{NodeItem}
use Rattle.vertex_items.specs.declared.item.NodeItem.TheVariants.{Start, Own, Message}

-- the parts of an item; none isn't sent
abbrev pub start_in : NodeItem → List Val
start_in (Start a) = a ∷ []
start_in (Own a) = []
start_in (Message a) = []

abbrev pub own_in : NodeItem → List Val
own_in (Start a) = []
own_in (Own a) = a ∷ []
own_in (Message a) = []

abbrev pub message_in : NodeItem → List Val
message_in (Start a) = []
message_in (Own a) = []
message_in (Message Nil) = []
message_in (Message (Num z)) = Num z ∷ []

-- the one value, where there is one and its weight is 1
abbrev pub single : List (Val × ℕ) → Option Val
single [] = None
single (e ∷ []) = if e.1 == 1 then Some e.0 else None
single (e ∷ f ∷ es) = None

-- the update, where there is one start and one value, each of weight 1, and the weights of the messages sum to less than 2^32
abbrev pub updated_by : Answer → Program → ℕ → Option Val → Option Val → List (Val × ℕ) → List (Val × ℕ)
updated_by answer p id None own ms = []
updated_by answer p id (Some start) None ms = []
updated_by answer p id (Some start) (Some own) ms = if nat_lt (sum_by (λ m. m.1) ms) 4_294_967_296 then (answer p id start own (gathered_of p.gather (repeated ms)) (length (repeated ms)), 1) ∷ [] else []

-- words that aren't proper, and those of a number that the graph doesn't have, give nothing
unfoldable pub node_gives : Answer → Program → GraphData → NodeNo → List (NodeItem × ℕ) → List (Val × ℕ)
node_gives answer p graph v words = if nat_lt v.0 (length graph.ids) then updated_by answer p (id_of graph v.0) (single (expanded start_in words)) (single (expanded own_in words)) (expanded message_in words) else []
